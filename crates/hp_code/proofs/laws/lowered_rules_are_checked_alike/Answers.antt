use Rattle.hp_code.proofs.CheckedLemmas.{rules_checked, rules_numbered}
use Rattle.hp_code.proofs.laws.lowered_rules_are_checked_alike.Goals as goal

pub returns-clause-faults : goal.returns-clause-faults
returns-clause-faults c = rules_checked

pub returns-clause-numbered : goal.returns-clause-numbered
returns-clause-numbered c = rules_numbered
