use Rattle.hp_world.proofs.LearningLemmas.{known_are_cells}
use Rattle.hp_world.proofs.laws.atoms_that_indexes_know_are_cells.Goals as goal

pub returns : goal.returns
returns c = known_are_cells
