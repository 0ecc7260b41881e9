use Rattle.hp_code.proofs.RuleLemmas.{node_children_same, visits_same, node_at_same, walk_same}
use Rattle.hp_code.proofs.laws.lowered_rules_have_the_tree.Goals as goal

pub returns-clause-children : goal.returns-clause-children
returns-clause-children c = node_children_same

pub returns-clause-visits : goal.returns-clause-visits
returns-clause-visits c = visits_same

pub returns-clause-nodes : goal.returns-clause-nodes
returns-clause-nodes c = node_at_same

pub returns-clause-walks : goal.returns-clause-walks
returns-clause-walks c = walk_same
