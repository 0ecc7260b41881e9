-- Atoms that are put into changes, and the answers of applying these.
use Rattle.std.specs.Prelude.{◌≡◌, ℕ, List, [], ◌∷◌, ◌++◌, Result, Ok, Err, Some, slice_get}
use Rattle.hp_syntax.specs.declared.fault.RunFault.{RunFault}
use Rattle.hp_syntax.specs.Terms.{Term}
use Rattle.hp_syntax.specs.Applying as plain
use Rattle.hp_syntax.specs.Applying.{ChangesOf}
use Rattle.hp_syntax.specs.Changes as terms_changed
use Rattle.hp_eval.specs.declared.event.EvalStop.{EvalStop}
use Rattle.hp_eval.specs.declared.event.EvalStop.TheVariants as stops
use Rattle.hp_eval.specs.GoalViews.{term_at}
use Rattle.hp_world.specs.declared.store.Applied.{Applied}
use Rattle.hp_world.specs.declared.store.Applied.TheVariants.{Done, Guarded}
use Rattle.hp_world.specs.Stages.{Stage, state_of, guards_of}
use Rattle.hp_effect.specs.declared.changes.Part.{Part}
use Rattle.hp_effect.specs.declared.changes.Part.TheVariants.{Unguard, Delete, Add, Guard}

abbrev pub list_of : Part → ChangesOf ℕ → List ℕ
list_of Unguard c = c.unguard
list_of Delete c = c.delete
list_of Add c = c.add
list_of Guard c = c.guard

-- the changes with one more atom behind the others of a list
abbrev pub with_last : Part → ℕ → ChangesOf ℕ → ChangesOf ℕ
with_last Unguard a c = record c { unguard = c.unguard ++ a ∷ [] }
with_last Delete a c = record c { delete = c.delete ++ a ∷ [] }
with_last Add a c = record c { add = c.add ++ a ∷ [] }
with_last Guard a c = record c { guard = c.guard ++ a ∷ [] }

-- a cell is put into a list, unless memory is wanting, and then nothing is changed
abbrev pub Pushes : {A E : Type 0} → Part → Result A E → ℕ → ChangesOf ℕ → ChangesOf ℕ → Type 0
Pushes part (Ok _) a old new = new ≡ with_last part a old
Pushes part (Err _) a old new = new ≡ old

-- the cell of the value is put into a list; at a fault, or for want of memory, nothing is changed
abbrev pub Puts : {A : Type 0} → Part → Result A EvalStop → Result Term RunFault → List Term
    → ChangesOf ℕ → ChangesOf ℕ → Type 0
Puts part (Ok _) value terms old new =
    (cell : ℕ) × (t : Term) × (value ≡ Ok t) × (slice_get terms cell ≡ Some t) × (new ≡ with_last part cell old)
Puts part (Err (stops.Fault f)) value terms old new = (value ≡ Err f) × (new ≡ old)
Puts part (Err stops.NoMemory) value terms old new = new ≡ old

-- applying answers this: the terms of the new stage, or the protected atom
abbrev pub IsApplied : Applied → List Term → Stage → terms_changed.Applied → Type 0
IsApplied Done terms new (plain.Now s g) = (state_of terms new ≡ s) × (guards_of terms new ≡ g)
IsApplied (Guarded a) terms new (plain.Guarded t) = term_at terms a ≡ t
IsApplied _ terms new _ = ⊥
