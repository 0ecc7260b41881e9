use Rattle.std.proofs.Common.{length, map, ap}
use Rattle.std.proofs.lemmas.Result.{IfOk-weaker}
use Rattle.hp_syntax.specs.Events.{concluded}
use Rattle.hp_syntax.specs.Views.{atom_of}
use Rattle.hp_eval.specs.GoalViews.{goal_of}
use Rattle.hp_eval.specs.Slotted.{named, bindings_of}
use Rattle.hp_eval.proofs.Copies.{same_below}
use Rattle.hp_eval.proofs.GrowthLemmas.{grows_self}
use Rattle.hp_satisfiers.proofs.ConclusionSteps.{concluded_met, concluded_none, concluded_stopped}
use Rattle.hp_answers.proofs.AnswerLemmas.{finds_same}
use Rattle.hp_satisfiers.proofs.conclusions.concluded.Goals as goal

pub conclude-requires-clause-slots : goal.conclude-requires-clause-slots
conclude-requires-clause-slots c =
    same_below (length c.args.cells.now) c.in_ok-copy.copy c.args.slots.now c.in_ok-copy.ensures c.requires.slots

pub returns-then-matches-clause-found : goal.returns-then-matches-clause-found
returns-then-matches-clause-found c =
    let old = c.args.cells.now in
    let new = c.conclude.new.cells in
    let s = c.args.slots.now in
    let copy = c.in_ok-copy.copy in
    let head = atom_of c.args.head.now in
    let own = bindings_of old c.args.own.now in
    IfOk-weaker c.only.result _ _
    (λ v is.
    finds_same new (length s.values) v.items _ _
    (ap (λ vs. concluded head own (goal_of old c.args.goal.now) (map (named old) vs)) c.in_ok-copy.ensures)
    (concluded_met _ new s copy c.conclude.new.slots v.items c.in-Ok.matches c.if-matches.true c.in_ok-copy.ensures
    c.in-Ok.ensures.concluded c.in-Ok.ensures.below is))
    c.only.ensures

pub returns-else-matches-clause-found : goal.returns-else-matches-clause-found
returns-else-matches-clause-found c =
    let old = c.args.cells.now in
    let new = c.conclude.new.cells in
    let s = c.args.slots.now in
    let copy = c.in_ok-copy.copy in
    let head = atom_of c.args.head.now in
    let own = bindings_of old c.args.own.now in
    finds_same new (length s.values) c.new.result.items _ _
    (ap (λ vs. concluded head own (goal_of old c.args.goal.now) (map (named old) vs)) c.in_ok-copy.ensures)
    (concluded_none _ new s copy c.conclude.new.slots c.new.result.items c.in-Ok.matches c.if-matches.false
    c.in-Ok.ensures.concluded c.new.ensures.items)

pub returns-in-Err-clause-found : goal.returns-in-Err-clause-found
returns-in-Err-clause-found c =
    let old = c.args.cells.now in
    let new = c.conclude.new.cells in
    let s = c.args.slots.now in
    let copy = c.in_ok-copy.copy in
    let head = atom_of c.args.head.now in
    let own = bindings_of old c.args.own.now in
    IfOk-weaker c.stopped.result _ _
    (λ v is.
    finds_same new (length s.values) v.items _ _
    (ap (λ vs. concluded head own (goal_of old c.args.goal.now) (map (named old) vs)) c.in_ok-copy.ensures)
    (concluded_stopped _ new s copy c.conclude.new.slots v.items c.in-Err.stop c.in-Err.ensures.concluded is))
    c.stopped.ensures

pub returns-in_err-copy-clause-cells : goal.returns-in_err-copy-clause-cells
returns-in_err-copy-clause-cells c = grows_self c.args.cells.now

pub returns-then-matches-clause-cells : goal.returns-then-matches-clause-cells
returns-then-matches-clause-cells c = c.conclude.ensures.cells

pub returns-else-matches-clause-cells : goal.returns-else-matches-clause-cells
returns-else-matches-clause-cells c = c.conclude.ensures.cells

pub returns-in-Err-clause-cells : goal.returns-in-Err-clause-cells
returns-in-Err-clause-cells c = c.conclude.ensures.cells
