use Rattle.std.proofs.Common.{rules}
use Rattle.hp_syntax.proofs.expression.SortOrder.copy.Goals as goal

pub returns : goal.returns
returns c = search rules
