use Rattle.hp_blame.specs.Blames.{culprit_kept}
use Rattle.hp_unmet.specs.Trials.{conjunction_of}
use Rattle.hp_doctor_why.proofs.BlamedSteps.{variables_on}
use Rattle.hp_doctor_why.proofs.blamed.push_variables.Goals as goal

pub loop-variable-preserved : goal.loop-variable-preserved
loop-variable-preserved c =
    variables_on (conjunction_of c.args.scene.asked) (culprit_kept c.args.scene.culprit.now)
    c.args.scene.asked.vars.now c.loop-variable.variable c.name-item.result _ _ _ c.loop-variable-test.true
    c.name-item.is c.loop-variable.invariant c.in_ok-push_variable.ensures
