use Rattle.std.proofs.Common.{arith}
use Rattle.hp_unmet.proofs.TrialLemmas.{all_end}
use Rattle.hp_unmet.proofs.trial.Trial.all.Goals as goal

pub returns-clause-prefix : goal.returns-clause-prefix
returns-clause-prefix c = record { within = omega arith; end = all_end c.args.self.now c.requires.can }
