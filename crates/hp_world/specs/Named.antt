-- Atoms at places by their names and arguments.
use Rattle.std.specs.Prelude.{◌≡◌, ℕ, ◌<◌, ◌≤◌, List, Option, Some, None, slice_get}
use Rattle.hp_syntax.specs.Terms.{Term, Terms, Listed, More}
use Rattle.hp_world.specs.Parts.{IsKeyOf}

-- at the place stands an atom of this name, where cells name these terms
pub record IsNamedAt (terms : List Term) (name : ℕ) (places : List (Option ℕ)) (i : ℕ) : Type 0 where
  pub atom : ℕ
  pub first : Term
  pub rest : Terms
  pub stands : slice_get places i ≡ Some (Some atom)
  pub names : slice_get terms atom ≡ Some (Listed (More first rest))
  pub same : slice_get terms name ≡ Some first

-- at the place stands an atom of this name and with this part
pub record IsNamedWithAt (terms : List Term) (name part argument : ℕ) (places : List (Option ℕ)) (i : ℕ) : Type 0 where
  pub named : IsNamedAt terms name places i
  pub has : IsKeyOf terms part named.atom (Some argument)

-- the least place from one on at which something holds
abbrev pub IsNextAt : (ℕ → Type 0) → ℕ → Option ℕ → Type 0
IsNextAt Holds from None = (i : ℕ) → from ≤ i → Holds i → ⊥
IsNextAt Holds from (Some i) = (from ≤ i) × Holds i × ((j : ℕ) → from ≤ j → j < i → Holds j → ⊥)

-- a place from one on before which something holds nowhere; none where it holds nowhere
abbrev pub IsNoLaterThan : (ℕ → Type 0) → ℕ → ℕ → Option ℕ → Type 0
IsNoLaterThan Holds count from None = (i : ℕ) → from ≤ i → Holds i → ⊥
IsNoLaterThan Holds count from (Some i) =
    (from ≤ i) × (i < count) × ((j : ℕ) → from ≤ j → j < i → Holds j → ⊥)

-- the least place from one on at which an atom of this name stands
abbrev pub IsNextNamed : List Term → ℕ → List (Option ℕ) → ℕ → Option ℕ → Type 0
IsNextNamed terms name places from = IsNextAt (IsNamedAt terms name places) from

-- the least place from one on at which an atom of this name with this part stands
abbrev pub IsNextNamedWith : List Term → ℕ → ℕ → ℕ → List (Option ℕ) → ℕ → Option ℕ → Type 0
IsNextNamedWith terms name part argument places from = IsNextAt (IsNamedWithAt terms name part argument places) from
