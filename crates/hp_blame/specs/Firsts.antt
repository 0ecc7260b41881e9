-- The first of several things, where there are any.
use Rattle.std.specs.Prelude.{ℕ, zero, suc, List, [], ◌∷◌, Option, None}
use Rattle.std.specs.Option.{option_or}

-- the first of what elements of a list give
abbrev pub first_in : {A B : Type 0} → (A → Option B) → List A → Option B
first_in f [] = None
first_in f (x ∷ xs) = option_or (f x) (first_in f xs)

-- the first of what numbers below a number give
abbrev pub first_below : {A : Type 0} → (ℕ → Option A) → ℕ → Option A
first_below f zero = None
first_below f (suc n) = option_or (first_below f n) (f n)
