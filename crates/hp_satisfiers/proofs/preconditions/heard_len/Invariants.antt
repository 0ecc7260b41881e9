use Rattle.std.proofs.Common.{◌≡◌, ◌++◌, List, take, drop}
use Rattle.hp_syntax.specs.Preconditions.{heard}
use Rattle.hp_syntax.specs.Terms.{Term}
use Rattle.hp_answers.specs.AnswerViews.{answer_events}
use Rattle.hp_satisfiers.proofs.preconditions.heard_len.Given as goal

abbrev pub invariant-loop-i : goal.invariant-loop-i
invariant-loop-i l =
    (terms : List Term)
    → heard (answer_events terms l.found)
    ≡ answer_events terms (take l.i l.found) ++ heard (answer_events terms (drop l.i l.found))
