use Rattle.hp_laws.proofs.RuleNameLemmas.{relevant_give}
use Rattle.hp_laws.proofs.tree_laws.relevant_rules_give_the_children.Goals as goal

pub returns : goal.returns
returns c = λ rules nest n p t. relevant_give rules nest n p t rules
