use Rattle.std.proofs.lemmas.Result.{IfOk-weaker}
use Rattle.hp_syntax.specs.Matching.{meet}
use Rattle.hp_eval.proofs.Copies.{same_below}
use Rattle.hp_eval.specs.GoalViews.{term_at}
use Rattle.std.proofs.Common.{length}
use Rattle.hp_satisfiers.proofs.MatchSteps.{met_in_copy, none_in_copy}
use Rattle.hp_satisfiers.proofs.matches.met.Goals as goal

pub meet-requires-clause-slots : goal.meet-requires-clause-slots
meet-requires-clause-slots c =
    same_below (length c.args.cells.now) c.in_ok-copy.copy c.args.slots.now c.in_ok-copy.ensures c.requires.slots

pub returns-then-meet : goal.returns-then-meet
returns-then-meet c =
    let terms = c.args.cells.now in
    IfOk-weaker c.only.result _ _
    (λ found is.
    met_in_copy terms c.args.slots.now c.in_ok-copy.copy c.meet.new.slots c.in_ok-copy.ensures
    (meet c.args.v (term_at terms c.args.cell)) c.meet.result c.meet.ensures found.items c.if-meet.true is)
    c.only.ensures

pub returns-else-meet : goal.returns-else-meet
returns-else-meet c =
    let terms = c.args.cells.now in
    none_in_copy terms c.args.slots.now c.in_ok-copy.copy c.meet.new.slots c.in_ok-copy.ensures
    (meet c.args.v (term_at terms c.args.cell)) c.meet.result c.meet.ensures c.new.result.items c.if-meet.false
    c.new.ensures.items
