use Rattle.std.proofs.Common.{rules}
use Rattle.hp_doctor.proofs.nesting.Open.nested_at.Goals as goal

pub returns-in-Some-clause-nested : goal.returns-in-Some-clause-nested
returns-in-Some-clause-nested c = search rules
