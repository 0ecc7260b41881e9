use Rattle.std.proofs.Common.{rules}
use Rattle.hp_doctor.proofs.telling.tell_line.Goals as goal

pub returns-in-Ok-clause-ok : goal.returns-in-Ok-clause-ok
returns-in-Ok-clause-ok g c = search rules
