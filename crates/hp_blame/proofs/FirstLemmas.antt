-- The first of several things, one after another.
use Rattle.std.proofs.Common.{◌≡◌, ℕ, zero, suc, ◌+◌, ◌-◌, ◌<◌, ◌≤◌, Bool, true, false, ◌||◌, List, [], ◌∷◌, ◌++◌, drop, get_or, length, Option, Some, None, refl, sym, ap, ◌∙◌, arith}
use Rattle.std.specs.Option.{option_or}
use Rattle.std.proofs.lemmas.List.{drop_more}
use Rattle.hp_blame.specs.Firsts.{first_below, first_in}

-- ---- along a list

module _ {X A : Type 0} (rest : List X → Option A) (part : X → Option A)
    (step : (y : X) (ys : List X) → rest (y ∷ ys) ≡ option_or (part y) (rest ys))
    (xs : List X) (i : ℕ) (x : X) (below : i < length xs) (at : x ≡ get_or xs i x) (whole : Option A)
    (left : rest (drop i xs) ≡ whole) where
  here : whole ≡ option_or (part x) (rest (drop (i + 1) xs))
  here =
      sym left
      ∙ (ap rest (drop_more xs i x below ∙ ap (λ y. y ∷ drop (i + 1) xs) (sym at)) ∙ step x (drop (i + 1) xs))

  -- where an element gives nothing, the first of all is that of those after it
  pub none_here : part x ≡ None → rest (drop (i + 1) xs) ≡ whole
  none_here none = sym (here ∙ ap (λ o. option_or o (rest (drop (i + 1) xs))) none)

  -- where it gives something, that is the first
  pub some_here : (a : A) → part x ≡ Some a → Some a ≡ whole
  some_here a some = sym (here ∙ ap (λ o. option_or o (rest (drop (i + 1) xs))) some)

module _ {X A : Type 0} (f : X → Option A) (x : X) where
  last : (o : Option A) → option_or o None ≡ o
  last None = refl
  last (Some a) = refl

  by : (o rest : Option A) (all : Option A) → all ≡ option_or rest (f x)
      → option_or o all ≡ option_or (option_or o rest) (f x)
  by None rest all e = e
  by (Some a) rest all e = refl

  -- the first of a list with one more element is that of the list, or else of the element
  pub first_more : (xs : List X) → first_in f (xs ++ x ∷ []) ≡ option_or (first_in f xs) (f x)
  first_more [] = last (f x)
  first_more (y ∷ ys) = by (f y) (first_in f ys) (first_in f (ys ++ x ∷ [])) (first_more ys)

-- ---- by numbers

module _ {A : Type 0} (f : ℕ → Option A) where
  -- where so many numbers give nothing, and the next one doesn't, one more gives nothing
  pub none_below : (n : ℕ) → first_below f n ≡ None → f n ≡ None → first_below f (n + 1) ≡ None
  none_below n none here = first_more n ∙ (ap (λ o. option_or o (f n)) none ∙ here)
    where
      first_more : (n : ℕ) → first_below f (n + 1) ≡ option_or (first_below f n) (f n)
      first_more n = let e : n + 1 ≡ suc n = omega arith in ap (first_below f) e

  kept : (a : A) (n k m : ℕ) → m ≡ k + n → first_below f n ≡ Some a → first_below f m ≡ Some a
  kept a n zero m e h = let same : m ≡ n = omega (arith, e) in ap (first_below f) same ∙ h
  kept a n (suc k) m e h =
      let same : m ≡ suc (k + n) = omega (arith, e) in
      ap (first_below f) same ∙ ap (λ o. option_or o (f (k + n))) (kept a n k (k + n) refl h)

  -- where so many numbers give nothing, and the next one something, that is the first of any more
  pub some_below : (a : A) (n all : ℕ) → n < all → first_below f n ≡ None → f n ≡ Some a → first_below f all ≡ Some a
  some_below a n all l none some =
      let e : all ≡ (all - suc n) + suc n = omega (arith, l) in
      kept a (suc n) (all - suc n) all e (ap (λ o. option_or o (f n)) none ∙ some)

  -- where so many numbers give nothing, fewer give nothing
  pub none_of : (n all : ℕ) → all ≤ n → first_below f n ≡ None → first_below f all ≡ None
  none_of n all l none = by (first_below f all) refl
    where
      by : (o : Option A) → first_below f all ≡ o → first_below f all ≡ None
      by None e = e
      by (Some a) e =
          let more : n ≡ (n - all) + all = omega (arith, l) in
          let never : None ≡ Some a = sym none ∙ kept a all (n - all) n more e in
          absurd (cc)

-- ---- whether any element passes

module _ {X : Type 0} (rest : List X → Bool) (part : X → Bool)
    (step : (y : X) (ys : List X) → rest (y ∷ ys) ≡ part y || rest ys)
    (xs : List X) (i : ℕ) (x : X) (below : i < length xs) (at : x ≡ get_or xs i x) (whole : Bool)
    (left : rest (drop i xs) ≡ whole) where
  any_here : whole ≡ part x || rest (drop (i + 1) xs)
  any_here =
      sym left
      ∙ (ap rest (drop_more xs i x below ∙ ap (λ y. y ∷ drop (i + 1) xs) (sym at)) ∙ step x (drop (i + 1) xs))

  -- where an element passes, one does
  pub one_passes : part x ≡ true → true ≡ whole
  one_passes passes = sym (any_here ∙ ap (λ b. b || rest (drop (i + 1) xs)) passes)

  -- where it doesn't, one does exactly where one of those after it does
  pub none_passes : part x ≡ false → rest (drop (i + 1) xs) ≡ whole
  none_passes fails = sym (any_here ∙ ap (λ b. b || rest (drop (i + 1) xs)) fails)
