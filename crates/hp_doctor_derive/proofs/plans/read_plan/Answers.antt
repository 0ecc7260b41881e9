use Rattle.hp_doctor.proofs.AcceptingLemmas.{text_stops}
use Rattle.hp_doctor.specs.Mending.{steps_form}
use Rattle.hp_io.specs.declared.folder.Input.TheVariants as inputs
use Rattle.hp_doctor_derive.proofs.plans.read_plan.Goals as goal

pub returns-in-Err-clause-stops : goal.returns-in-Err-clause-stops
returns-in-Err-clause-stops c =
    rw c.stop_of.ensures (text_stops inputs.Plan steps_form _ c.in-Err.refusal c.in-Err.ensures.refused)
