use Rattle.std.proofs.Common.{rules}
use Rattle.hp_print.proofs.expressions.push_nothing.Goals as goal

pub returns : goal.returns
returns c = search rules
