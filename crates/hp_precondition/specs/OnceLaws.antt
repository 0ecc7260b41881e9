-- The bindings of a start alone: what is left of them, which slots they go on with, and the laws of satisfiers.
use Rattle.std.specs.Prelude.{◌≡◌, ◌≤◌, Bool, true, false, cond, List, [], ◌∷◌, length, take}
use Rattle.std.specs.List.{All}
use Rattle.std.proofs.Common.{ap, arith}
use Rattle.std.proofs.lemmas.List.Elements.{All-nil}
use Rattle.hp_syntax.specs.Terms.{Term}
use Rattle.hp_syntax.specs.Events.{Event, EventExtends, Sat}
use Rattle.hp_syntax.specs.Values.{Bindings}
use Rattle.hp_eval.specs.Slotted.{Slotted, AreBelow, undone, bindings_of}
use Rattle.hp_eval.specs.SlotLaws.{bindings_agree}
use Rattle.hp_eval.proofs.SlotLemmas.{below_undone}
use Rattle.hp_suspended.proofs.EventLists.{sat_extends_itself}
use Rattle.hp_suspended.proofs.OneSteps.{length-undone}
use Rattle.hp_precondition.specs.declared.once.Once.{Once}

-- the bindings of the start are left until they are given
abbrev pub once_rest : Once → List Term → Slotted → List Event
once_rest o terms e = cond o.is_given [] (Sat (bindings_of terms (undone o.mark e)) ∷ [])

-- those of the start are bound, to cells below the kept number
abbrev pub FitsOnce : Once → Slotted → Type 0
FitsOnce o e = (o.mark ≤ length e.trail) × AreBelow o.kept e

-- undone to the start they are bound so again
pub fits_undone : (o : Once) (e : Slotted) → FitsOnce o e → FitsOnce o (undone o.mark e)
fits_undone o e h = (let long = length-undone o.mark e h.0 in omega (arith, long), below_undone o.kept o.mark e h.1)

-- the events that are left are the same over any cells that agree below the kept number
pub once_same : (o : Once) (c d : List Term) (e : Slotted) → FitsOnce o e → take o.kept c ≡ take o.kept d
    → once_rest o c e ≡ once_rest o d e
once_same o c d e h k =
    ap (λ b. cond o.is_given [] (Sat b ∷ []))
    (bindings_agree o.kept c d (undone o.mark e) (below_undone o.kept o.mark e h.1) k)

-- bindings that may be left extend themselves
left_extends : (given : Bool) (b : Bindings) → All (EventExtends b) (cond given [] (Sat b ∷ []))
left_extends true b = All-nil (EventExtends b)
left_extends false b = sat_extends_itself b

-- a Sat that is left extends the bindings of the start
pub once_extends : (o : Once) (c : List Term) (e : Slotted)
    → All (EventExtends (bindings_of c (undone o.mark e))) (once_rest o c e)
once_extends o c e = left_extends o.is_given (bindings_of c (undone o.mark e))
