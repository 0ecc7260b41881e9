use Rattle.hp_world.proofs.PastLemmas.{all_stood_below}
use Rattle.hp_world.proofs.laws.atoms_of_indexes_stood.Goals as goal

pub returns : goal.returns
returns c = all_stood_below
