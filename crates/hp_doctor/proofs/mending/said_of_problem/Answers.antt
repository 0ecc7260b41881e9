use Rattle.hp_syntax.specs.Views.{problem_of}
use Rattle.hp_doctor.proofs.mending.said_of_problem.Goals as goal

pub returns-in-Ok : goal.returns-in-Ok
returns-in-Ok c = record { value = problem_of c.in-Ok.problem; read = c.in-Ok.ensures.problem }

pub returns-in-Err-Refused : goal.returns-in-Err-Refused
returns-in-Err-Refused c = rw c.in-Err-Refused.field-0-is at c.in-Err-Refused.ensures.stops
