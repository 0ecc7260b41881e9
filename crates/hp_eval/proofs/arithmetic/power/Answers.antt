use Rattle.std.proofs.Common.{rules}
use Rattle.hp_eval.proofs.arithmetic.power.Goals as goal

pub returns-else-n-ne0 : goal.returns-else-n-ne0
returns-else-n-ne0 c = search rules
