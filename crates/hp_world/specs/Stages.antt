-- Stages, by cells: places in a row, each with an atom or empty, and protections.
use Rattle.std.specs.Prelude.{◌≡◌, ◌⊎◌, ℕ, ◌<◌, ◌==◌, Bool, List, [], ◌∷◌, map, Option, Some, None, slice_get}
use Rattle.std.specs.List.{All}
use Rattle.hp_syntax.specs.Terms.{Term}
use Rattle.hp_syntax.specs.Events.{State}
use Rattle.hp_syntax.specs.Applying.{ChangesOf}
use Rattle.hp_syntax.specs.Changes.{Changes}
use Rattle.hp_eval.specs.GoalViews.{term_at}

pub record Stage : Type 0 where
  pub places : List (Option ℕ)
  pub guards : List ℕ

-- the atoms at places, in order
abbrev pub live_atoms : List (Option ℕ) → List ℕ
live_atoms [] = []
live_atoms (None ∷ places) = live_atoms places
live_atoms (Some a ∷ places) = a ∷ live_atoms places

abbrev pub same_cell : ℕ → ℕ → Bool
same_cell a b = a == b

-- each place is still there, and holds what it held or is empty
abbrev pub PlacesKept : List (Option ℕ) → List (Option ℕ) → Type 0
PlacesKept old new =
    (i : ℕ) (held : Option ℕ) → slice_get old i ≡ Some held
    → (slice_get new i ≡ Some held) ⊎ (slice_get new i ≡ Some None)

-- ---- the terms that cells name

abbrev pub terms_at : List Term → List ℕ → List Term
terms_at terms cells = map (term_at terms) cells

abbrev pub state_of : List Term → Stage → State
state_of terms s = terms_at terms (live_atoms s.places)

abbrev pub guards_of : List Term → Stage → List Term
guards_of terms s = terms_at terms s.guards

abbrev pub changes_of : List Term → ChangesOf ℕ → Changes
changes_of terms c = record {
  unguard = terms_at terms c.unguard;
  delete = terms_at terms c.delete;
  add = terms_at terms c.add;
  guard = terms_at terms c.guard;
}

-- ---- cells below a count

abbrev pub AllBelow : ℕ → List ℕ → Type 0
AllBelow n cells = All (λ c. c < n) cells

pub record StageBelow (n : ℕ) (s : Stage) : Type 0 where
  pub atoms : AllBelow n (live_atoms s.places)
  pub guards : AllBelow n s.guards

pub record ChangesBelow (n : ℕ) (c : ChangesOf ℕ) : Type 0 where
  pub unguard : AllBelow n c.unguard
  pub delete : AllBelow n c.delete
  pub add : AllBelow n c.add
  pub guard : AllBelow n c.guard
