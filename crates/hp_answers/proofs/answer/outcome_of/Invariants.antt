use Rattle.std.proofs.Common.{◌≡◌, List, drop}
use Rattle.hp_syntax.specs.Terms.{Term}
use Rattle.hp_syntax.specs.Events.{finding}
use Rattle.hp_answers.specs.AnswerViews.{answer_events}
use Rattle.hp_answers.proofs.AnswerLemmas.{after_cut}
use Rattle.hp_answers.proofs.answer.outcome_of.Given as goal

abbrev pub invariant-loop-x : goal.invariant-loop-x
invariant-loop-x l =
    (terms : List Term)
    → finding (answer_events terms l.found)
    ≡ after_cut l.cut (finding (answer_events terms (drop l.x-index l.found)))
