use Rattle.hp_syntax.proofs.LimitLemmas.{limits_clear, forest_keeps_limits}
use Rattle.hp_syntax.proofs.laws.limits_are_kept.Goals as goal

pub returns-clause-enough : goal.returns-clause-enough
returns-clause-enough c = λ text f h l. limits_clear text l f h

pub returns-clause-needed : goal.returns-clause-needed
returns-clause-needed c = forest_keeps_limits
