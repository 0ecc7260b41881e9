use Rattle.std.proofs.Common.{rules}
use Rattle.hp_check.proofs.rules.variables.Goals as goal

pub returns : goal.returns
returns c = search rules
