use Rattle.std.proofs.Common.{Ok, ap, ◌∙◌}
use Rattle.hp_syntax.specs.Views.{atom_of}
use Rattle.hp_suspended.specs.Nodes.{head_at}
use Rattle.hp_suspended.specs.SceneViews.{code_in}
use Rattle.hp_suspended.proofs.BeginSteps.{conclusion_faulty, conclusion_met, conclusion_none}
use Rattle.hp_suspended.proofs.begins.conclusion.Goals as goal

pub returns-in-Ok-true-clause-gives : goal.returns-in-Ok-true-clause-gives
returns-in-Ok-true-clause-gives c = λ terms grows.
    let run = c.args.run.now in
    conclusion_met c.args.cells.now c.conclude.new.cells terms c.conclude.ensures.cells grows
    (head_at (code_in c.args.scene.now) run.head) (atom_of c.head_of-head.result.now) c.head_of-head.ensures
    c.args.goal.now c.requires.goal run.own c.args.slots.now c.requires.own c.requires.slots c.conclude.result
    c.conclude.new.slots c.conclude.ensures.concluded (c.in-Ok-true.is ∙ ap Ok c.in-Ok-true.field-0-test)
    c.conclude.ensures.below

pub returns-in-Ok-false-clause-gives : goal.returns-in-Ok-false-clause-gives
returns-in-Ok-false-clause-gives c = λ terms grows.
    let run = c.args.run.now in
    conclusion_none c.args.cells.now c.conclude.new.cells terms c.conclude.ensures.cells grows
    (head_at (code_in c.args.scene.now) run.head) (atom_of c.head_of-head.result.now) c.head_of-head.ensures
    c.args.goal.now c.requires.goal run.own c.args.slots.now c.requires.own c.requires.slots c.conclude.result
    c.conclude.new.slots c.conclude.ensures.concluded (c.in-Ok-false.is ∙ ap Ok c.in-Ok-false.field-0-test)

pub returns-in-Err-Fault-clause-gives : goal.returns-in-Err-Fault-clause-gives
returns-in-Err-Fault-clause-gives c = λ terms grows.
    let run = c.args.run.now in
    conclusion_faulty c.args.cells.now c.conclude.new.cells terms c.conclude.ensures.cells grows
    (head_at (code_in c.args.scene.now) run.head) (atom_of c.head_of-head.result.now) c.head_of-head.ensures
    c.args.goal.now c.requires.goal run.own c.args.slots.now c.requires.own c.requires.slots c.conclude.result
    c.conclude.new.slots c.conclude.ensures.concluded c.in-Err-Fault.field-0 c.in-Err-Fault.fault
    c.in-Err-Fault.is c.in-Err-Fault.field-0-is
