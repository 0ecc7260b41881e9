use Rattle.std.proofs.Common.{map}
use Rattle.hp_syntax.specs.GroundViews.{ground_of}
use Rattle.hp_doctor.proofs.mending.said_of_plan.Goals as goal

pub returns-in-Ok : goal.returns-in-Ok
returns-in-Ok c = record { value = map ground_of c.in-Ok.steps.items; read = c.in-Ok.ensures.plan }

pub returns-in-Err-Refused : goal.returns-in-Err-Refused
returns-in-Err-Refused c = rw c.in-Err-Refused.field-0-is at c.in-Err-Refused.ensures.stops
