use Rattle.std.proofs.Common.{rules}
use Rattle.hp_print.proofs.words.variable_name.Goals as goal

pub returns-in-Some : goal.returns-in-Some
returns-in-Some c = search rules
