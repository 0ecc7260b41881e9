use Rattle.std.proofs.Common.{rules}
use Rattle.hp_suspended.proofs.simple.filter_of.Goals as goal

pub returns-in-Some : goal.returns-in-Some
returns-in-Some c = search rules
