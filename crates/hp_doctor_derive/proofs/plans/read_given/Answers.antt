use Rattle.std.proofs.Common.{Some}
use Rattle.hp_doctor_derive.specs.Blanked.{blanked}
use Rattle.hp_doctor_derive.specs.Plans.{RefusesPlan, Without}
use Rattle.hp_doctor_derive.proofs.plans.read_given.Goals as goal

pub returns-in-Ok-read_without-clause-plan : goal.returns-in-Ok-read_without-clause-plan
returns-in-Ok-read_without-clause-plan c =
    let refused : RefusesPlan (Some c.args.text.now) c.in-Err-Refused.refusal =
    rw c.in-Err-Refused.field-0-is at c.in-Err-Refused.ensures.stops in
    Without c.in-Err-Refused.refusal refused c.in-Ok-read_without.ensures.plan

pub returns-in-Err-Refused-read_without-clause-stops : goal.returns-in-Err-Refused-read_without-clause-stops
returns-in-Err-Refused-read_without-clause-stops c =
    let refused : RefusesPlan (Some c.args.text.now) c.in-Err-Refused.refusal =
    rw c.in-Err-Refused.field-0-is at c.in-Err-Refused.ensures.stops in
    let again : RefusesPlan (Some (blanked c.args.text.now)) c.in-Err-Refused-read_without.field-0-0 =
    rw c.in-Err-Refused-read_without.field-0-is at c.in-Err-Refused-read_without.ensures.stops in
    record { other = c.in-Err-Refused-read_without.field-0-0; as_it_is = refused; without = again }
