-- Terms that were added, and the answers of evaluations over them.
use Rattle.std.specs.Prelude.{◌≡◌, ℕ, List, length, take, Some, slice_get, Result, Ok, Err}
use Rattle.hp_syntax.specs.declared.fault.RunFault.{RunFault}
use Rattle.hp_syntax.specs.Terms.{Term}
use Rattle.hp_eval.specs.declared.event.EvalStop.{EvalStop}
use Rattle.hp_eval.specs.declared.event.EvalStop.TheVariants as stops

-- the terms that stood before stand at their places
abbrev pub Grows : List Term → List Term → Type 0
Grows old new = take (length old) new ≡ old

-- an evaluation answers as its definition: the cell of the value, or the fault; for want of memory it is free
abbrev pub Gives : Result ℕ EvalStop → Result Term RunFault → List Term → Type 0
Gives (Ok cell) value terms = (t : Term) × (value ≡ Ok t) × (slice_get terms cell ≡ Some t)
Gives (Err (stops.Fault f)) value terms = value ≡ Err f
Gives (Err stops.NoMemory) value terms = Unit {0}

-- the same of an answer that isn't a cell, but stands for a value by a view
abbrev pub GivesBy : {A B : Type 0} → (A → B) → Result A EvalStop → Result B RunFault → Type 0
GivesBy view (Ok x) value = value ≡ Ok (view x)
GivesBy view (Err (stops.Fault f)) value = value ≡ Err f
GivesBy view (Err stops.NoMemory) value = Unit {0}
