-- Places of a list that grows at its end or is cut.
use Rattle.std.proofs.Common.{◌≡◌, ℕ, zero, suc, ◌<◌, Bool, true, false, cond, List, [], ◌∷◌, ◌++◌, Option, Some, None, ◌⊎◌, inl, inr, length, take, position, slice_get, is_some, refl, sym, ap, ◌∙◌, true≢false, arith}
use Rattle.std.specs.List.{list_any}
use Rattle.std.proofs.lemmas.List.Folds.{list_any_at, Any-from_list_any}
use Rattle.std.proofs.lemmas.List.Quantifiers.{position-Some}
use Rattle.std.proofs.lemmas.Option.{none-some, same_Some, slice_get_within, slice_get-get_or, get_or_from_slice_get}
use Rattle.hp_cells.specs.Cells.{AreDistinct, IsAbsent, LooksUp}

module _ {X : Type 0} where
  -- a longer list has at the places of a list what stands there
  pub same_in_longer : (xs ys : List X) (i : ℕ) → i < length xs → slice_get (xs ++ ys) i ≡ slice_get xs i
  same_in_longer [] ys i h = absurd (omega arith)
  same_in_longer (x ∷ xs) ys zero h = refl
  same_in_longer (x ∷ xs) ys (suc i) h = same_in_longer xs ys i (omega arith)

  -- what stands in a list stands there in a longer one
  pub kept : (xs ys : List X) (i : ℕ) (x : X) → slice_get xs i ≡ Some x → slice_get (xs ++ ys) i ≡ Some x
  kept xs ys i x h = same_in_longer xs ys i (slice_get_within xs i x h) ∙ h

  -- what comes last stands behind the others
  pub stands_last : (xs : List X) (y : X) → slice_get (xs ++ y ∷ []) (length xs) ≡ Some y
  stands_last [] y = refl
  stands_last (x ∷ xs) y = stands_last xs y

  -- a list that is longer by one has at a place what stood there, or its last
  pub before_or_last : (xs : List X) (y : X) (i : ℕ) (x : X) → slice_get (xs ++ y ∷ []) i ≡ Some x
      → (slice_get xs i ≡ Some x) ⊎ ((i ≡ length xs) × (y ≡ x))
  before_or_last [] y zero x h = inr (refl, same_Some y x h)
  before_or_last [] y (suc i) x h = absurd (none-some x h)
  before_or_last (z ∷ xs) y zero x h = inl h
  before_or_last (z ∷ xs) y (suc i) x h = by (before_or_last xs y i x h)
    where
      by : (slice_get xs i ≡ Some x) ⊎ ((i ≡ length xs) × (y ≡ x))
          → (slice_get xs i ≡ Some x) ⊎ ((suc i ≡ suc (length xs)) × (y ≡ x))
      by (inl e) = inl e
      by (inr e) = inr (ap suc e.0, e.1)

  -- a list that is cut has what stood before the cut
  pub stays : (n : ℕ) (xs : List X) (i : ℕ) → i < n → slice_get (take n xs) i ≡ slice_get xs i
  stays zero xs i h = absurd (omega arith)
  stays (suc n) [] i h = refl
  stays (suc n) (x ∷ xs) zero h = refl
  stays (suc n) (x ∷ xs) (suc i) h = stays n xs i (omega arith)

  -- what stands in a list that is cut stood there, before the cut
  pub stood : (n : ℕ) (xs : List X) (i : ℕ) (x : X) → slice_get (take n xs) i ≡ Some x
      → (i < n) × (slice_get xs i ≡ Some x)
  stood zero xs i x h = absurd (none-some x h)
  stood (suc n) [] i x h = absurd (none-some x h)
  stood (suc n) (y ∷ xs) zero x h = (omega arith, h)
  stood (suc n) (y ∷ xs) (suc i) x h = let p = stood n xs i x h in (omega arith, p.1)

  -- a test is passed where one stands that passes it
  pub some_passes : (p : X → Bool) (xs : List X) (i : ℕ) (x : X) → slice_get xs i ≡ Some x → p x ≡ true
      → list_any p xs ≡ true
  some_passes p xs i x h e =
      list_any_at p xs i x (slice_get_within xs i x h) (ap p (get_or_from_slice_get xs i x x h) ∙ e)

  -- where a test is passed, one stands that passes it
  pub passes_at : (p : X → Bool) (xs : List X) → list_any p xs ≡ true
      → (i : ℕ) × (x : X) × (slice_get xs i ≡ Some x) × (p x ≡ true)
  passes_at p xs h =
      let a = Any-from_list_any p xs h in
      (a.0, a.1, slice_get-get_or xs a.0 a.1 a.2 ∙ ap Some a.3, a.4)

  -- an absent item behind the others keeps all distinct
  pub distinct_push : (xs : List X) (y : X) → AreDistinct xs → IsAbsent xs y → AreDistinct (xs ++ y ∷ [])
  distinct_push xs y distinct absent i j x h k = by (before_or_last xs y i x h) (before_or_last xs y j x k)
    where
      by : (slice_get xs i ≡ Some x) ⊎ ((i ≡ length xs) × (y ≡ x))
          → (slice_get xs j ≡ Some x) ⊎ ((j ≡ length xs) × (y ≡ x)) → i ≡ j
      by (inl p) (inl q) = distinct i j x p q
      by (inl p) (inr q) = absurd (absent i (p ∙ ap Some (sym q.1)))
      by (inr p) (inl q) = absurd (absent j (q ∙ ap Some (sym p.1)))
      by (inr p) (inr q) = p.0 ∙ sym q.0

  module _ (eq : X → X → Bool) where
    module _ (same : (x y : X) → eq x y ≡ true → x ≡ y) where
      -- where those alone that are one compare equal, inserting an absent item puts it behind the others
      pub inserted_behind : (xs : List X) (x : X) → IsAbsent xs x
          → cond (list_any (eq x) xs) xs (xs ++ x ∷ []) ≡ xs ++ x ∷ []
      inserted_behind xs x absent = by (list_any (eq x) xs) refl
        where
          by : (b : Bool) → list_any (eq x) xs ≡ b → cond b xs (xs ++ x ∷ []) ≡ xs ++ x ∷ []
          by false e = refl
          by true e =
              let p = passes_at (eq x) xs e in
              absurd (absent p.0 (p.2 ∙ ap Some (sym (same x p.1 p.3))))

    module _ (itself : (x : X) → eq x x ≡ true) where
      -- where each item compares equal to itself, one to which none compares equal is absent
      pub none_equal : (x : X) (xs : List X) → list_any (eq x) xs ≡ false → IsAbsent xs x
      none_equal x xs none i h = true≢false (sym (some_passes (eq x) xs i x h (itself x)) ∙ none)

    module _ (same : (x y : X) → eq x y ≡ true → x ≡ y) (itself : (x : X) → eq x x ≡ true) where
      -- where those alone that are one compare equal, the first place of an equal item is that of the item
      pub looked_up : (x : X) (xs : List X) (r : Option ℕ) → r ≡ position (eq x) xs
          → is_some r ≡ list_any (eq x) xs → LooksUp x xs r
      looked_up x xs None at found = none_equal itself x xs (sym found)
      looked_up x xs (Some i) at found =
          let p = position-Some (eq x) xs i x (sym at) in
          slice_get-get_or xs i x p.0 ∙ ap Some (sym (same x _ p.1))
