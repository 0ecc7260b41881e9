use Rattle.hp_world.proofs.PastLemmas.{pasts_undone}
use Rattle.hp_world.proofs.laws.undoing_leaves_earlier_pasts.Goals as goal

pub returns : goal.returns
returns c = pasts_undone
