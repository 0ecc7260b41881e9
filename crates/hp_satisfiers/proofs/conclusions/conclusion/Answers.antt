use Rattle.std.proofs.Common.{List, length, subst}
use Rattle.std.proofs.lemmas.Result.{IfOk-weaker}
use Rattle.hp_syntax.specs.Values.{Bindings}
use Rattle.hp_syntax.specs.Events.{Event, concluded}
use Rattle.hp_syntax.specs.Views.{atom_of}
use Rattle.hp_eval.specs.GoalViews.{goal_of}
use Rattle.hp_eval.specs.Slotted.{bindings_of}
use Rattle.hp_eval.proofs.GrowthLemmas.{grows_self}
use Rattle.hp_answers.specs.AnswerViews.{BindsBelow}
use Rattle.hp_answers.proofs.AnswerLemmas.{finds_same, sat_replaced, cut_replaced, fault_replaced}
use Rattle.hp_satisfiers.proofs.conclusions.conclusion.Goals as goal

pub concluded-requires-clause-own : goal.concluded-requires-clause-own
concluded-requires-clause-own c = subst (BindsBelow (length c.args.cells.now)) c.in-Sat.is c.requires.found

pub returns-in-Sat-clause-found : goal.returns-in-Sat-clause-found
returns-in-Sat-clause-found c =
    let old = c.args.cells.now in
    let s = c.args.slots.now in
    let f : Bindings → List Event
    = λ b. concluded (atom_of c.args.head.now) b (goal_of old c.args.goal.now) (bindings_of old s) in
    IfOk-weaker c.concluded.result _ _
    (λ v h.
    finds_same c.concluded.new.cells (length s.values) v.items _ _
    (sat_replaced old f c.args.found.now c.in-Sat.own c.in-Sat.is) h)
    c.concluded.ensures.found

pub returns-in-Cut-clause-found : goal.returns-in-Cut-clause-found
returns-in-Cut-clause-found c =
    let old = c.args.cells.now in
    let s = c.args.slots.now in
    let f : Bindings → List Event
    = λ b. concluded (atom_of c.args.head.now) b (goal_of old c.args.goal.now) (bindings_of old s) in
    IfOk-weaker c.only.result _ _
    (λ v is. cut_replaced old f c.args.found.now (length s.values) v.items c.in-Cut.is is) c.only.ensures

pub returns-in-Fault-clause-found : goal.returns-in-Fault-clause-found
returns-in-Fault-clause-found c =
    let old = c.args.cells.now in
    let s = c.args.slots.now in
    let f : Bindings → List Event
    = λ b. concluded (atom_of c.args.head.now) b (goal_of old c.args.goal.now) (bindings_of old s) in
    IfOk-weaker c.only-in-Fault.result _ _
    (λ v is. fault_replaced old f c.args.found.now (length s.values) c.in-Fault.fault v.items c.in-Fault.is is)
    c.only-in-Fault.ensures

pub returns-in-Cut-clause-cells : goal.returns-in-Cut-clause-cells
returns-in-Cut-clause-cells c = grows_self c.args.cells.now

pub returns-in-Fault-clause-cells : goal.returns-in-Fault-clause-cells
returns-in-Fault-clause-cells c = grows_self c.args.cells.now
