use Rattle.std.proofs.Common.{rules}
use Rattle.hp_check.proofs.patterns.head.Goals as goal

pub returns-in-Head : goal.returns-in-Head
returns-in-Head c = search rules
