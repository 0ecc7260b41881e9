use Rattle.std.proofs.Common.{rules}
use Rattle.hp_doctor.proofs.remarking.push_remark.Goals as goal

pub returns : goal.returns
returns c = search rules
