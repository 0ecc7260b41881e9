use Rattle.std.proofs.Common.{rules}
use Rattle.hp_doctor.proofs.mending.mend_text.Goals as goal

pub returns-in-Some : goal.returns-in-Some
returns-in-Some c = search rules
