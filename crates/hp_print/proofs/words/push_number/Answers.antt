use Rattle.std.proofs.Common.{rules}
use Rattle.hp_print.proofs.words.push_number.Goals as goal

pub returns : goal.returns
returns c = search rules
