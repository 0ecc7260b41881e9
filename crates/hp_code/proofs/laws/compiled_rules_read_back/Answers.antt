use Rattle.hp_nodes.proofs.TreeLemmas.{laid_back}
use Rattle.hp_code.proofs.SourceLemmas.{rules_back}
use Rattle.hp_code.proofs.laws.compiled_rules_read_back.Goals as goal

pub returns-clause-nodes : goal.returns-clause-nodes
returns-clause-nodes c = laid_back

pub returns-clause-rules : goal.returns-clause-rules
returns-clause-rules c = rules_back
