use Rattle.hp_laws.proofs.HearingLemmas.{whole_tree}
use Rattle.hp_laws.proofs.tree_laws.walks_without_faults_are_the_tree.Goals as goal

pub returns : goal.returns
returns c = whole_tree
