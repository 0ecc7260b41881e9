use Rattle.hp_laws.proofs.NormalWalks.{walk_normal}
use Rattle.hp_laws.proofs.tree_laws.networks_stay_normal.Goals as goal

pub returns : goal.returns
returns c = walk_normal
