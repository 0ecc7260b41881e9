use Rattle.hp_unmet.proofs.TrialLemmas.{may_ask}
use Rattle.hp_unmet.proofs.trial.Trial.nodes_of.Goals as goal

pub returns-clause-are : goal.returns-clause-are
returns-clause-are c = may_ask c.args.self.now c.requires.can c.args.prefix c.requires.prefix
