use Rattle.hp_laws.proofs.PathLemmas.{visits_in_tree}
use Rattle.hp_laws.proofs.tree_laws.visits_are_in_the_tree.Goals as goal

pub returns : goal.returns
returns c = visits_in_tree
