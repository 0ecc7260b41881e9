use Rattle.std.proofs.Common.{◌≡◌, ◌++◌, drop}
use Rattle.hp_blame.specs.Blames.{culprit_kept}
use Rattle.hp_unmet.specs.Trials.{conjunction_of}
use Rattle.hp_doctor_why.specs.Blamed.{variables_from}
use Rattle.hp_doctor_why.proofs.blamed.push_variables.Given as goal

abbrev pub invariant-loop-variable : goal.invariant-loop-variable
invariant-loop-variable l =
    let c = conjunction_of l.scene.asked in
    let x = culprit_kept l.scene.culprit.now in
    l.out.items ++ variables_from c x l.variable (drop l.variable l.scene.asked.vars.now)
    ≡ l.fn.out.items ++ variables_from c x 0 l.scene.asked.vars.now
