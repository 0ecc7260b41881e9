use Rattle.hp_io.specs.declared.folder.Input.TheVariants as inputs
use Rattle.hp_doctor.specs.Mending.{steps_form}
use Rattle.hp_doctor.proofs.AcceptingLemmas.{text_stops}
use Rattle.hp_doctor.proofs.accepting.plan_in.Goals as goal

pub returns-in-Ok-clause-plan : goal.returns-in-Ok-clause-plan
returns-in-Ok-clause-plan c = c.plan_of.ensures.plan c.args.text.now c.in-Ok.ensures.forest

pub returns-in-Ok-clause-stops : goal.returns-in-Ok-clause-stops
returns-in-Ok-clause-stops c = c.plan_of.ensures.stops c.args.text.now c.in-Ok.ensures.forest

pub returns-in-Err-clause-stops : goal.returns-in-Err-clause-stops
returns-in-Err-clause-stops c =
    rw c.of_text.ensures (text_stops inputs.Plan steps_form _ c.in-Err.refusal c.in-Err.ensures.refused)
