use Rattle.std.proofs.Common.{rules}
use Rattle.hp_net.proofs.net.Net.undo_to.Goals as goal

pub returns : goal.returns
returns c = search rules
