use Rattle.hp_io.specs.declared.folder.Input.TheVariants as inputs
use Rattle.hp_text.specs.Nodes.{forest_of}
use Rattle.hp_doctor.specs.Mending.{steps_form}
use Rattle.hp_doctor.proofs.AcceptingLemmas.{form_stops}
use Rattle.hp_doctor.proofs.accepting.plan_of.Goals as goal

pub returns-in-Ok-clause-plan : goal.returns-in-Ok-clause-plan
returns-in-Ok-clause-plan c =
    λ text h. record { forest = forest_of c.args.forest.now; spelled = h; form_is = c.in-Ok.ensures.form }

pub returns-in-Err-clause-stops : goal.returns-in-Err-clause-stops
returns-in-Err-clause-stops c =
    λ text h. rw c.of_form.ensures
    (form_stops inputs.Plan steps_form text (forest_of c.args.forest.now) c.in-Err.refusal h c.in-Err.ensures.form)
