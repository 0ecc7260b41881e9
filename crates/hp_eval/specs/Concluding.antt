-- Conclusions of an axiom's bindings on a goal, in slots.
use Rattle.std.specs.Prelude.{◌≡◌, Bool, true, false, ◌&&◌, List, [], ◌∷◌, Result, Ok, Err}
use Rattle.hp_syntax.specs.Events.{Event, Sat, Fault, parts_bound, tail_is_bound}
use Rattle.hp_syntax.specs.Syntax.{Atom}
use Rattle.hp_syntax.specs.Terms.{Term}
use Rattle.hp_syntax.specs.Values.{Bindings}
use Rattle.hp_eval.specs.declared.event.EvalStop.{EvalStop}
use Rattle.hp_eval.specs.declared.event.EvalStop.TheVariants as stops
use Rattle.hp_eval.specs.Slotted.{Slotted, Binds, bindings_of}

-- each variable of a head stands for a term
abbrev pub head_bound : Atom → Bindings → Bool
head_bound h b = parts_bound h.args b && tail_is_bound h.tail b

-- the answer of concluding: true with the one satisfier's bindings, bound above those before; false where nothing is
-- met; else the fault that is met; nothing is bound then
abbrev pub Concluded : Result Bool EvalStop → List Event → List Term → Slotted → Slotted → Type 0
Concluded (Ok true) events terms old new = (events ≡ Sat (bindings_of terms new) ∷ []) × Binds old new
Concluded (Ok false) events terms old new = (events ≡ []) × (new ≡ old)
Concluded (Err (stops.Fault f)) events terms old new = (events ≡ Fault f ∷ []) × (new ≡ old)
Concluded (Err stops.NoMemory) events terms old new = new ≡ old
