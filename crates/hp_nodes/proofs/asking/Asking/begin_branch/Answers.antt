use Rattle.std.proofs.Common.{rules}
use Rattle.hp_nodes.proofs.asking.Asking.begin_branch.Goals as goal

pub returns-clause-known : goal.returns-clause-known
returns-clause-known c = search rules
