use Rattle.std.proofs.Common.{◌≡◌, None, List, drop}
use Rattle.std.specs.Prelude.{is_some}
use Rattle.hp_syntax.specs.Terms.{Term}
use Rattle.hp_syntax.specs.Goals.{ground_parts}
use Rattle.hp_eval.specs.GoalViews.{fillings_of}
use Rattle.hp_suspended.proofs.known.are_known.Given as goal

abbrev pub invariant-loop-part : goal.invariant-loop-part
invariant-loop-part l =
    (terms : List Term) → is_some (ground_parts (fillings_of terms (drop l.part-index l.parts)) None)
    ≡ is_some (ground_parts (fillings_of terms l.parts) None)
