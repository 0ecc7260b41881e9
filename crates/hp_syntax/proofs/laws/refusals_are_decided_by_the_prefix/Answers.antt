use Rattle.std.proofs.Common.{◌+◌, arith}
use Rattle.hp_syntax.specs.declared.limits.TheConstants.{LARGEST_TEXT}
use Rattle.hp_syntax.proofs.PrefixRefusals.{prefix_decides, limit_refuses, limit_spells}
use Rattle.hp_syntax.proofs.laws.refusals_are_decided_by_the_prefix.Goals as goal

pub returns-clause-prefix : goal.returns-clause-prefix
returns-clause-prefix c = prefix_decides

pub returns-clause-refused : goal.returns-clause-refused
returns-clause-refused c = λ text r x. limit_refuses (LARGEST_TEXT + 1) text r (omega arith) x

pub returns-clause-spelled : goal.returns-clause-spelled
returns-clause-spelled c = λ text f x. limit_spells (LARGEST_TEXT + 1) text f (omega arith) x
