use Rattle.std.proofs.Common.{rules}
use Rattle.hp_eval.proofs.lists.is_too_deep.Goals as goal

pub returns : goal.returns
returns c = search rules
