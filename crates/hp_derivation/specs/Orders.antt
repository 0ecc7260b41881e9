-- The order in which the tasks of a plan are read: each right before what it came to.
use Rattle.std.specs.Prelude.{ℕ, zero, suc, ◌==◌, cond, List, [], ◌∷◌, Option, Some, None}

-- a number right behind another one
abbrev pub put_behind : ℕ → ℕ → List ℕ → List ℕ
put_behind other k [] = []
put_behind other k (x ∷ xs) = x ∷ cond (x == other) (k ∷ xs) (put_behind other k xs)

-- a number right behind another one, or in front of all
abbrev pub put_in : Option ℕ → ℕ → List ℕ → List ℕ
put_in None k xs = k ∷ xs
put_in (Some other) k xs = put_behind other k xs

-- so many numbers from one on, the first so, and each other one right behind the one before it
abbrev pub put_all : Option ℕ → ℕ → ℕ → List ℕ → List ℕ
put_all behind k zero xs = xs
put_all behind k (suc more) xs = put_all (Some k) (suc k) more (put_in behind k xs)
