use Rattle.hp_tree.proofs.SuccessorLemmas.{visits_split}
use Rattle.hp_tree.proofs.laws.visits_are_those_of_successors.Goals as goal

pub returns : goal.returns
returns c = visits_split
