use Rattle.hp_world.proofs.LearningLemmas.{all_known_where_agreed}
use Rattle.hp_world.proofs.laws.indexes_know_where_cells_agree.Goals as goal

pub returns : goal.returns
returns c = all_known_where_agreed
