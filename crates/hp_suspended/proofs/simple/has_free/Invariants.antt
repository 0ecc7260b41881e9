use Rattle.std.proofs.Common.{◌≡◌, List, drop, true}
use Rattle.hp_syntax.specs.Terms.{Term}
use Rattle.hp_syntax.specs.Views.{patterns_of}
use Rattle.hp_eval.specs.Slotted.{bindings_of}
use Rattle.hp_suspended.specs.SimpleAtoms.{some_free}
use Rattle.hp_suspended.proofs.simple.has_free.Given as goal

abbrev pub invariant-loop-part : goal.invariant-loop-part
invariant-loop-part l =
    (terms : List Term) → some_free (patterns_of (drop l.part-index l.parts)) (bindings_of terms l.slots) ≡ true
    → some_free (patterns_of l.parts) (bindings_of terms l.slots) ≡ true
