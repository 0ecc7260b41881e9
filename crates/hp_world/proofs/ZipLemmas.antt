-- Lists whose items are changed one after another.
use Rattle.std.proofs.Common.{◌≡◌, ◌≢◌, ℕ, zero, suc, ◌+◌, ◌<◌, ◌≤◌, List, [], ◌∷◌, ◌++◌, map, length, get_or, set, take, refl, sym, ap, ◌∙◌, subst, arith}
use Rattle.std.specs.List.{All, AllZip}
use Rattle.std.proofs.lemmas.List.{length-set, get_or-set_same, get_or-set_other, take_more, take_all}
use Rattle.std.proofs.lemmas.List.Elements.{All-nil, All-cons, All-head, All-tail, All-more, AllZip-push}

module _ {X : Type 0} where
  -- the first items are related to what they were, and the others are what they were
  pub record IsChangedTo (R : X → X → Type 0) (old new : List X) (i : ℕ) : Type 0 where
    pub count : length new ≡ length old
    pub changed : AllZip R (take i old) (take i new)
    pub rest : (k : ℕ) (d : X) → i ≤ k → get_or new k d ≡ get_or old k d

  -- the items before one that is written stay
  take_set : (xs : List X) (i : ℕ) (y : X) → take i (set xs i y) ≡ take i xs
  take_set [] zero y = refl
  take_set [] (suc i) y = refl
  take_set (x ∷ xs) zero y = refl
  take_set (x ∷ xs) (suc i) y = ap (λ (zs : List X). x ∷ zs) (take_set xs i y)

  -- at first no item is changed
  pub unchanged : (R : X → X → Type 0) (xs : List X) → IsChangedTo R xs xs 0
  unchanged R xs = record { count = refl; changed = tt; rest = λ k d h. refl }

  -- one more item is changed
  pub changed_more : (R : X → X → Type 0) (old new : List X) (i : ℕ) (x y : X) → i < length old
      → R (get_or new i x) y → IsChangedTo R old new i → IsChangedTo R old (set new i y) (i + 1)
  changed_more R old new i x y l r h =
      let here : R (get_or old i x) y = subst (λ (z : X). R z y) (h.rest i x (omega arith)) r in
      let olds : take (i + 1) old ≡ take i old ++ get_or old i x ∷ [] = take_more old i x l in
      let set_in : i < length (set new i y) = omega (arith, length-set new i y, h.count) in
      let kept : take i (set new i y) ≡ take i new = take_set new i y in
      let news : take (i + 1) (set new i y) ≡ take i new ++ y ∷ [] =
      take_more (set new i y) i x set_in
      ∙ ap (λ (xs : List X). xs ++ get_or (set new i y) i x ∷ []) kept
      ∙ ap (λ (z : X). take i new ++ z ∷ []) (get_or-set_same new i y x (omega (arith, h.count))) in
      record {
        count = length-set new i y ∙ h.count;
        changed =
            subst (λ (xs : List X). AllZip R xs (take (i + 1) (set new i y))) (sym olds)
            (subst (λ (ys : List X). AllZip R (take i old ++ get_or old i x ∷ []) ys) (sym news)
            (AllZip-push R (take i old) (take i new) (get_or old i x) y h.changed here));
        rest = λ k d m.
            let other : k ≢ i = omega arith in
            get_or-set_other new i k y d other ∙ h.rest k d (omega arith);
      }

  -- one more item is written of which something holds as it does of those before
  pub all_set : (P : X → Type 0) (xs : List X) (i : ℕ) (y : X) → i < length xs → All P (take i xs) → P y
      → All P (take (i + 1) (set xs i y))
  all_set P xs i y l h p =
      let set_in : i < length (set xs i y) = omega (arith, length-set xs i y) in
      let kept : take i (set xs i y) ≡ take i xs = take_set xs i y in
      All-more P (set xs i y) i y set_in (subst (λ (zs : List X). All P zs) (sym kept) h)
      (subst P (sym (get_or-set_same xs i y y l)) p)

  -- in the end all items are changed
  pub all_changed : (R : X → X → Type 0) (old new : List X) (i : ℕ) → length old ≤ i → IsChangedTo R old new i
      → AllZip R old new
  all_changed R old new i l h =
      subst (λ (xs : List X). AllZip R xs new) (take_all i old l)
      (subst (λ (ys : List X). AllZip R (take i old) ys) (take_all i new (omega (arith, h.count))) h.changed)

  -- where the loop stops the rest is related to itself
  pub changed_so_far : (R : X → X → Type 0) → ((x : X) → R x x) → (old new : List X) (i : ℕ)
      → IsChangedTo R old new i → AllZip R old new
  changed_so_far R same [] [] i h = tt
  changed_so_far R same [] (y ∷ new) i h = absurd (omega (arith, h.count))
  changed_so_far R same (x ∷ old) [] i h = absurd (omega (arith, h.count))
  changed_so_far R same (x ∷ old) (y ∷ new) zero h =
      let e : y ≡ x = h.rest 0 x (omega arith) in (
        subst (λ (z : X). R x z) (sym e) (same x),
        changed_so_far R same old new zero (record {
          count = omega (arith, h.count);
          changed = tt;
          rest = λ k d m. h.rest (suc k) d (omega arith);
        }),
      )
  changed_so_far R same (x ∷ old) (y ∷ new) (suc i) h = (
    h.changed.0,
    changed_so_far R same old new i (record {
      count = omega (arith, h.count);
      changed = h.changed.1;
      rest = λ k d m. h.rest (suc k) d (omega arith);
    }),
  )

  -- what holds of each item, and of what it is changed to, holds of all
  pub all_zipped : (P Q : X → Type 0) (R : X → X → Type 0) → ((x y : X) → P x → R x y → Q y) → (xs ys : List X)
      → All P xs → AllZip R xs ys → All Q ys
  all_zipped P Q R f [] [] h z = All-nil Q
  all_zipped P Q R f [] (y ∷ ys) h z = absurd z
  all_zipped P Q R f (x ∷ xs) [] h z = absurd z
  all_zipped P Q R f (x ∷ xs) (y ∷ ys) h z =
      All-cons Q y ys (f x y (All-head P x xs h) z.0) (all_zipped P Q R f xs ys (All-tail P x xs h) z.1)

  -- what no item's change touches stays of all
  pub zip_map : {Y : Type 0} → (f : X → Y) (R : X → X → Type 0) → ((x y : X) → R x y → f y ≡ f x) → (xs ys : List X)
      → AllZip R xs ys → map f ys ≡ map f xs
  zip_map f R same [] [] z = refl
  zip_map f R same [] (y ∷ ys) z = absurd z
  zip_map f R same (x ∷ xs) [] z = absurd z
  zip_map f R same (x ∷ xs) (y ∷ ys) z =
      ap (λ v. v ∷ map f ys) (same x y z.0) ∙ ap (λ vs. f x ∷ vs) (zip_map f R same xs ys z.1)

  -- items that are changed twice are related by both changes
  pub zip_twice : (R S T : X → X → Type 0) → ((x y z : X) → R x y → S y z → T x z) → (xs ys zs : List X)
      → AllZip R xs ys → AllZip S ys zs → AllZip T xs zs
  zip_twice R S T f [] [] [] r s = tt
  zip_twice R S T f (x ∷ xs) (y ∷ ys) (z ∷ zs) r s = (f x y z r.0 s.0, zip_twice R S T f xs ys zs r.1 s.1)
  zip_twice R S T f [] [] (z ∷ zs) r s = absurd s
  zip_twice R S T f [] (y ∷ ys) zs r s = absurd r
  zip_twice R S T f (x ∷ xs) [] zs r s = absurd r
  zip_twice R S T f (x ∷ xs) (y ∷ ys) [] r s = absurd s

  -- what is related where something holds of each item
  pub zip_where : (P : X → Type 0) (R S : X → X → Type 0) → ((x y : X) → P x → R x y → S x y) → (xs ys : List X)
      → All P xs → AllZip R xs ys → AllZip S xs ys
  zip_where P R S f [] [] h r = tt
  zip_where P R S f [] (y ∷ ys) h r = absurd r
  zip_where P R S f (x ∷ xs) [] h r = absurd r
  zip_where P R S f (x ∷ xs) (y ∷ ys) h r =
      (f x y (All-head P x xs h) r.0, zip_where P R S f xs ys (All-tail P x xs h) r.1)

  -- each item is related to itself
  pub zip_same : (R : X → X → Type 0) → ((x : X) → R x x) → (xs ys : List X) → ys ≡ xs → AllZip R xs ys
  zip_same R same xs ys e = subst (λ (zs : List X). AllZip R xs zs) (sym e) (itself xs)
    where
      itself : (xs : List X) → AllZip R xs xs
      itself [] = tt
      itself (x ∷ xs) = (same x, itself xs)
