use Rattle.std.proofs.Common.{rules}
use Rattle.hp_terms.proofs.nodes.closing.Goals as goal

pub returns : goal.returns
returns c = search rules
