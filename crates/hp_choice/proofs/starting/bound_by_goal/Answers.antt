use Rattle.std.proofs.lemmas.Result.{IfOk-weaker}
use Rattle.hp_eval.specs.GoalViews.{goal_of}
use Rattle.hp_suspended.specs.SceneViews.{code_in}
use Rattle.hp_choice.proofs.StartSteps.{goal_filled, goal_unfilled}
use Rattle.hp_choice.proofs.starting.bound_by_goal.Goals as goal

pub returns-in-Ok-clause-bound : goal.returns-in-Ok-clause-bound
returns-in-Ok-clause-bound c =
    IfOk-weaker c.started_by.result _ _
    (goal_filled (code_in c.args.scene.now) c.args.rule c.started_by.new.cells _ _ c.in-Ok.ensures.gives)
    c.started_by.ensures.bound

pub returns-in-Err-Fault-clause-bound : goal.returns-in-Err-Fault-clause-bound
returns-in-Err-Fault-clause-bound c =
    goal_unfilled (code_in c.args.scene.now) c.args.rule c.fill_goal.new.cells (goal_of c.fill_goal.new.cells)
    c.in-Err-Fault.field-0
    c.in-Err-Fault.field-0-0 c.in-Err-Fault.field-0-is _ c.in-Err-Fault.ensures.gives
