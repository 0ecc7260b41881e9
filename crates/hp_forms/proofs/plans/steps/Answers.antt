use Rattle.std.proofs.lemmas.Result.{err_from_is_err_and}
use Rattle.hp_forms.proofs.PlanSteps.{step_read, step_refused, all_read}
use Rattle.hp_forms.proofs.plans.steps.Goals as goal

pub returns-in_err-step : goal.returns-in_err-step
returns-in_err-step c =
    let p = err_from_is_err_and c.from_residual-in_err-step.result c.from_residual-in_err-step.ensures.1 in
    rw (p.1, p.2) (step_refused c.args.nodes.now c.loop-node.node-index c.loop-node.steps.items _ c.loop-node.invariant
    c.node-item.result c.loop-node-test.true c.node-item.is c.in_err-step.field-0.0 c.in_err-step.ensures)

pub loop-node-preserved : goal.loop-node-preserved
loop-node-preserved c =
    rw c.in_ok-push.ensures.items (step_read c.args.nodes.now c.loop-node.node-index c.loop-node.steps.items _
    c.loop-node.invariant c.node-item.result c.loop-node-test.true c.node-item.is _ c.in_ok-step.ensures)

pub returns : goal.returns
returns c =
    all_read c.args.nodes.now c.loop-node.node-index c.loop-node.steps.items _ c.loop-node.invariant
    c.loop-node-test.false
