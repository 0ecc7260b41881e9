-- Deleting atoms one after the other, and cancelling a protection.
use Rattle.std.specs.Prelude.{◌≡◌, ◌≢◌, ℕ, ◌<◌, not, List, [], ◌∷◌, filter, length, slice_index}
use Rattle.hp_world.specs.Stages.{same_cell}

-- the atoms but this one
abbrev pub without : ℕ → List ℕ → List ℕ
without d atoms = filter (λ a. not (same_cell a d)) atoms

-- the atoms without each of these in turn
abbrev pub deleted : List ℕ → List ℕ → List ℕ
deleted atoms [] = atoms
deleted atoms (d ∷ ds) = deleted (without d atoms) ds

-- the first place at which the atom stands
pub record IsFirstAt (a : ℕ) (xs : List ℕ) (i : ℕ) : Type 0 where
  pub within : i < length xs
  pub stands : slice_index xs i ≡ a
  pub first : (k : ℕ) → k < i → slice_index xs k ≢ a
