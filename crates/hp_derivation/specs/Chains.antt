-- What a chain of numbers stands for.
use Rattle.std.specs.Prelude.{◌≡◌, ℕ, ◌+◌, ◌≤◌, List, [], ◌∷◌, ◌++◌, length, Option, Some, None, slice_get}
use Rattle.hp_derivation.specs.declared.chain.Chain.{Chain}

-- a number is none of these
abbrev pub IsApart : ℕ → List ℕ → Type 0
IsApart x [] = Unit {0}
IsApart x (y ∷ ys) = (x ≡ y → ⊥) × IsApart x ys

-- the numbers come one behind the other, each once, by the number that is behind each
abbrev pub Follows : List (Option ℕ) → Option ℕ → List ℕ → Type 0
Follows links at [] = at ≡ None
Follows links at (x ∷ xs) =
    (at ≡ Some x) × IsApart x xs × (next : Option ℕ) × (slice_get links x ≡ Some next) × Follows links next xs

-- a chain stands for these numbers in this order
pub record Reads (c : Chain) (xs : List ℕ) : Type 0 where
  pub follows : Follows c.links.items c.first xs
  pub few : length xs ≤ length c.links.items

-- some of a chain's numbers are listed, and the others, which are no more than those that are left to be counted, come
-- from here on
pub record IsMidway (c : Chain) (i : ℕ) (listed : List ℕ) (at : Option ℕ) (xs : List ℕ) : Type 0 where
  pub others : List ℕ
  pub all : listed ++ others ≡ xs
  pub follows : Follows c.links.items at others
  pub few : length others + i ≤ length c.links.items
