-- A list in which no element comes before an earlier one, and ties keep their order, is the one that insertion makes.
use Rattle.std.proofs.Common.{◌≡◌, ℕ, suc, ◌<◌, ◌≤◌, Bool, true, false, not, ◌&&◌, cond, List, [], ◌∷◌, length, get_or, refl, sym, ◌∙◌, ap, ap₂, subst, arith}
use Rattle.std.specs.List.{filter}
use Rattle.std.specs.List.Sorted.{IsSortedBy, IsStableBy, ties}
use Rattle.std.specs.Cmp.{IsStrictWeakOrder}
use Rattle.std.proofs.lemmas.Bool.{false≢true}
use Rattle.std.proofs.lemmas.List.Sorted.{sorted_far}

module _ {X : Type 0} (lt : X → X → Bool) where
  -- put before the first that doesn't come before it
  abbrev pub inserted : X → List X → List X
  inserted x [] = x ∷ []
  inserted x (y ∷ ys) = cond (lt y x) (y ∷ inserted x ys) (x ∷ y ∷ ys)

  -- each element put in among the later ones
  abbrev pub in_order : List X → List X
  in_order [] = []
  in_order (x ∷ xs) = inserted x (in_order xs)

  -- none of a list comes before an element
  abbrev NoneBefore : X → List X → Type 0
  NoneBefore x [] = Unit {0}
  NoneBefore x (y ∷ ys) = (lt y x ≡ false) × NoneBefore x ys

  -- no element comes before an earlier one
  abbrev Ascends : List X → Type 0
  Ascends [] = Unit {0}
  Ascends (x ∷ xs) = NoneBefore x xs × Ascends xs

  -- none of a list comes before an element where none at a place does
  none_before : (x : X) (ys : List X) → ((k : ℕ) → k < length ys → lt (get_or ys k x) x ≡ false) → NoneBefore x ys
  none_before x [] h = tt
  none_before x (y ∷ ys) h = (h 0 (omega arith), none_before x ys (λ k l. h (suc k) (omega arith)))

  -- a list ascends where no element at a place comes before one at an earlier place
  ascends_from : (xs : List X)
      → ((i j : ℕ) (d : X) → i ≤ j → j < length xs → lt (get_or xs j d) (get_or xs i d) ≡ false) → Ascends xs
  ascends_from [] h = tt
  ascends_from (x ∷ xs) h = (
    none_before x xs (λ k l. h 0 (suc k) x (omega arith) (omega arith)),
    ascends_from xs (λ i j d p q. h (suc i) (suc j) d (omega arith) (omega arith)),
  )

  -- ---- insertion keeps the order

  module _ (o : IsStrictWeakOrder lt) where
    -- what doesn't come before a later one doesn't come before an earlier one
    none_before_earlier : (x y : X) (zs : List X) → lt y x ≡ false → NoneBefore y zs → NoneBefore x zs
    none_before_earlier x y [] h n = tt
    none_before_earlier x y (z ∷ zs) h n = (o.chain z y x n.0 h, none_before_earlier x y zs h n.1)

    -- where neither an element nor one of a list comes before another, none of the list with the element does
    none_before_inserted : (x y : X) (ys : List X) → lt y x ≡ false → NoneBefore x ys → NoneBefore x (inserted y ys)
    none_before_inserted x y [] h n = (h, tt)
    none_before_inserted x y (z ∷ zs) h n = by (lt z y) (none_before_inserted x y zs h n.1)
      where
        by : (b : Bool) → NoneBefore x (inserted y zs) → NoneBefore x (cond b (z ∷ inserted y zs) (y ∷ z ∷ zs))
        by true rest = (n.0, rest)
        by false rest = (h, n)

    -- a list that ascends ascends with an element put in
    ascends_inserted : (x : X) (ys : List X) → Ascends ys → Ascends (inserted x ys)
    ascends_inserted x [] a = (tt, tt)
    ascends_inserted x (y ∷ ys) a = by (lt y x) refl (ascends_inserted x ys a.1)
      where
        by : (b : Bool) → lt y x ≡ b → Ascends (inserted x ys) → Ascends (cond b (y ∷ inserted x ys) (x ∷ y ∷ ys))
        by true h rest = (none_before_inserted y x ys (o.one_way y x h) a.0, rest)
        by false h rest = ((h, none_before_earlier x y ys h a.0), a)

    -- what insertion makes ascends
    ascends_in_order : (xs : List X) → Ascends (in_order xs)
    ascends_in_order [] = tt
    ascends_in_order (x ∷ xs) = ascends_inserted x (in_order xs) (ascends_in_order xs)

    -- ---- insertion keeps ties in their order

    -- of two elements that tie neither comes before the other
    tied : (x y : X) → ties lt x y ≡ true → (lt x y ≡ false) × (lt y x ≡ false)
    tied x y = by (lt x y) (lt y x)
      where
        by : (a b : Bool) → not a && not b ≡ true → (a ≡ false) × (b ≡ false)
        by false false h = (refl, refl)
        by true b h = absurd (false≢true h)
        by false true h = absurd (false≢true h)

    -- two elements of which neither comes before the other tie
    tie : (x y : X) → lt x y ≡ false → lt y x ≡ false → ties lt x y ≡ true
    tie x y h k = ap₂ (λ a b. not a && not b) h k

    -- two elements of which one comes before the other don't both tie with a third
    apart : (t x y : X) → lt y x ≡ true → ties lt t x ≡ true → ties lt t y ≡ true → ⊥
    apart t x y h p q = false≢true (sym (o.chain y t x (tied t y q).1 (tied t x p).0) ∙ h)

    -- where not both of two elements pass a test, they stay in any order
    flipped : (x y : X) (zs : List X) (p q : Bool) → (p ≡ true → q ≡ true → ⊥)
        → cond q (y ∷ cond p (x ∷ zs) zs) (cond p (x ∷ zs) zs) ≡ cond p (x ∷ cond q (y ∷ zs) zs) (cond q (y ∷ zs) zs)
    flipped x y zs true true n = absurd (n refl refl)
    flipped x y zs true false n = refl
    flipped x y zs false true n = refl
    flipped x y zs false false n = refl

    -- what ties with an element stands among a list with an element put in as in the list behind that element
    filter-inserted : (t x : X) (ys : List X)
        → filter (ties lt t) (inserted x ys) ≡ filter (ties lt t) (x ∷ ys)
    filter-inserted t x [] = refl
    filter-inserted t x (y ∷ ys) = by (lt y x) refl (filter-inserted t x ys)
      where
        by : (b : Bool) → lt y x ≡ b → filter (ties lt t) (inserted x ys) ≡ filter (ties lt t) (x ∷ ys)
            → filter (ties lt t) (cond b (y ∷ inserted x ys) (x ∷ y ∷ ys)) ≡ filter (ties lt t) (x ∷ y ∷ ys)
        by true h rest =
            ap (λ zs. cond (ties lt t y) (y ∷ zs) zs) rest
            ∙ flipped x y (filter (ties lt t) ys) (ties lt t x) (ties lt t y) (apart t x y h)
        by false h rest = refl

    -- insertion keeps ties in their order
    stable_in_order : (xs : List X) → IsStableBy lt xs (in_order xs)
    stable_in_order [] t = refl
    stable_in_order (x ∷ xs) t =
        filter-inserted t x (in_order xs) ∙ ap (λ zs. cond (ties lt t x) (x ∷ zs) zs) (stable_in_order xs t)

    -- ---- order and ties determine a list

    -- an element ties with itself
    self_tie : (x : X) → ties lt x x ≡ true
    self_tie x = by (lt x x) refl
      where
        by : (b : Bool) → lt x x ≡ b → ties lt x x ≡ true
        by false h = tie x x h h
        by true h = absurd (false≢true (sym (o.one_way x x h) ∙ h))

    -- what is kept of a list is none that comes before an element, where no element of the list does
    first_kept : (p : X → Bool) (x y : X) (zs ws : List X) → NoneBefore x zs → filter p zs ≡ y ∷ ws → lt y x ≡ false
    first_kept p x y [] ws n h = absurd cc
    first_kept p x y (z ∷ zs) ws n h = by (p z) h (first_kept p x y zs ws n.1)
      where
        by : (b : Bool) → cond b (z ∷ filter p zs) (filter p zs) ≡ y ∷ ws
            → (filter p zs ≡ y ∷ ws → lt y x ≡ false) → lt y x ≡ false
        by true k rest = let e : z ≡ y = cc in subst (λ w. lt w x ≡ false) e n.0
        by false k rest = rest k

    -- the first of a list is kept first by what ties with it
    kept_first : (x : X) (xs : List X) → filter (ties lt x) (x ∷ xs) ≡ x ∷ filter (ties lt x) xs
    kept_first x xs = ap (λ b. cond b (x ∷ filter (ties lt x) xs) (filter (ties lt x) xs)) (self_tie x)

    -- where none of a list comes before an element, none of the list behind it does
    none_before_itself : (x : X) (xs : List X) → NoneBefore x xs → NoneBefore x (x ∷ xs)
    none_before_itself x xs n = ((tied x x (self_tie x)).0, n)

    -- what is kept of a longer list is equal where the first is equal and what is kept of the others
    strip : (b : Bool) (x : X) (ys zs : List X) → cond b (x ∷ ys) ys ≡ cond b (x ∷ zs) zs → ys ≡ zs
    strip true x ys zs h = cc
    strip false x ys zs h = h

    -- the first elements of two lists that ascend and keep ties alike are equal
    same_first : (x y : X) (xs ys : List X) → Ascends (x ∷ xs) → Ascends (y ∷ ys)
        → IsStableBy lt (x ∷ xs) (y ∷ ys) → y ≡ x
    same_first x y xs ys a b s = let e = sym kept_y ∙ from_x in cc
      where
        from_x : filter (ties lt x) (y ∷ ys) ≡ x ∷ filter (ties lt x) xs
        from_x = s x ∙ kept_first x xs

        from_y : filter (ties lt y) (x ∷ xs) ≡ y ∷ filter (ties lt y) ys
        from_y = sym (s y) ∙ kept_first y ys

        x_after : lt x y ≡ false
        x_after = first_kept (ties lt x) y x (y ∷ ys) (filter (ties lt x) xs) (none_before_itself y ys b.0) from_x

        y_after : lt y x ≡ false
        y_after = first_kept (ties lt y) x y (x ∷ xs) (filter (ties lt y) ys) (none_before_itself x xs a.0) from_y

        kept_y : filter (ties lt x) (y ∷ ys) ≡ y ∷ filter (ties lt x) ys
        kept_y = ap (λ b. cond b (y ∷ filter (ties lt x) ys) (filter (ties lt x) ys)) (tie x y x_after y_after)

    -- what stands behind equal first elements keeps ties alike
    stable_behind : (x y : X) (xs ys : List X) → y ≡ x → IsStableBy lt (x ∷ xs) (y ∷ ys) → IsStableBy lt xs ys
    stable_behind x y xs ys first s t =
        strip (ties lt t x) x (filter (ties lt t) ys) (filter (ties lt t) xs)
        (subst (λ z. cond (ties lt t z) (z ∷ filter (ties lt t) ys) (filter (ties lt t) ys)
        ≡ cond (ties lt t x) (x ∷ filter (ties lt t) xs) (filter (ties lt t) xs)) first (s t))

    -- two lists that ascend and keep ties alike are equal
    same_in_order : (xs ys : List X) → Ascends xs → Ascends ys → IsStableBy lt xs ys → ys ≡ xs
    same_in_order [] [] a b s = refl
    same_in_order [] (y ∷ ys) a b s = let e = sym (kept_first y ys) ∙ s y in absurd cc
    same_in_order (x ∷ xs) [] a b s = let e = s x ∙ kept_first x xs in absurd cc
    same_in_order (x ∷ xs) (y ∷ ys) a b s =
        let first = same_first x y xs ys a b s in
        ap₂ (λ z zs. z ∷ zs) first (same_in_order xs ys a.1 b.1 (stable_behind x y xs ys first s))

    -- a stable sort makes the list that insertion makes
    pub sorted_in_order : (xs ys : List X) → IsSortedBy lt ys → IsStableBy lt xs ys → ys ≡ in_order xs
    sorted_in_order xs ys up s =
        same_in_order (in_order xs) ys (ascends_in_order xs) (ascends_from ys (sorted_far lt o ys up))
        (λ t. s t ∙ sym (stable_in_order xs t))
