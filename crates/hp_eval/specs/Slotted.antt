-- Bindings of variables to cells, in the order in which they were made.
use Rattle.std.specs.Prelude.{◌≡◌, ◌≢◌, ℕ, ◌<◌, ◌≤◌, Bool, true, false, List, [], ◌∷◌, ◌++◌, map, length, take, drop, replicate, Option, Some, None, slice_get, slice_set, Contains}
use Rattle.std.specs.List.{AllPairs}
use Rattle.std.specs.Option.{option_and_then}
use Rattle.hp_syntax.specs.Terms.{Term}
use Rattle.hp_syntax.specs.Values.{Bindings}
use Rattle.hp_eval.specs.declared.slots.Slot.{Slot}

-- the cell of each variable, where it is bound, and the variables in the order in which they were bound
pub record Slotted : Type 0 where
  pub values : List (Option ℕ)
  pub trail : List ℕ

abbrev pub slotted : List (Option ℕ) → List ℕ → Slotted
slotted values trail = record { values = values; trail = trail }

-- as it is stored: at each place its variable's cell and the variable bound in its turn, and the number that are bound
abbrev pub stored : List Slot → ℕ → Slotted
stored slots bound = slotted (map (λ slot. slot.value) slots) (take bound (map (λ slot. slot.listed) slots))

-- so many variables, none of them bound
abbrev pub no_bindings : ℕ → Slotted
no_bindings n = slotted (replicate n None) []

-- with a further variable bound to a cell
abbrev pub with_bound : ℕ → ℕ → Slotted → Slotted
with_bound v cell s = slotted (slice_set s.values v (Some cell)) (s.trail ++ v ∷ [])

-- without the bindings of these variables
abbrev pub without : List ℕ → List (Option ℕ) → List (Option ℕ)
without [] values = values
without (v ∷ vs) values = without vs (slice_set values v None)

-- as it was when so many bindings had been made
abbrev pub undone : ℕ → Slotted → Slotted
undone mark s = slotted (without (drop mark s.trail) s.values) (take mark s.trail)

-- a variable is bound exactly where the trail lists it, and it lists none twice
pub record AreSlots (s : Slotted) : Type 0 where
  pub listed : (v cell : ℕ) → slice_get s.values v ≡ Some (Some cell) → Contains s.trail v
  pub bound : (v : ℕ) → Contains s.trail v → (cell : ℕ) × (slice_get s.values v ≡ Some (Some cell))
  pub once : AllPairs (λ v w. v ≢ w) s.trail

-- further bindings were made, and undoing them gives those before
pub record Binds (old new : Slotted) : Type 0 where
  pub later : length old.trail ≤ length new.trail
  pub undoes : undone (length old.trail) new ≡ old

-- each cell that is bound is below a count
abbrev pub AreBelow : ℕ → Slotted → Type 0
AreBelow n s = (v cell : ℕ) → slice_get s.values v ≡ Some (Some cell) → cell < n

-- the cell of a variable; one beyond the variables has none
abbrev pub flat : Option (Option ℕ) → Option ℕ
flat None = None
flat (Some cell) = cell

-- the term that a cell names, where one is named
abbrev pub named : List Term → Option ℕ → Option Term
named terms cell = option_and_then (slice_get terms) cell

-- the bindings that the cells of variables are
abbrev pub bindings_of : List Term → Slotted → Bindings
bindings_of terms s = map (named terms) s.values

-- the answer of matching: true with the bindings that the definition has, bound above those before, or false where it
-- has none, with nothing changed
abbrev pub Matched : Bool → Option Bindings → List Term → Slotted → Slotted → Type 0
Matched true found terms old new = (found ≡ Some (bindings_of terms new)) × Binds old new
Matched false found terms old new = (found ≡ None) × (new ≡ old)
