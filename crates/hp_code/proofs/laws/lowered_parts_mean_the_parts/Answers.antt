use Rattle.hp_code.proofs.LoweredLemmas.{sat_same, precondition_same}
use Rattle.hp_code.proofs.EffectLemmas.{operator_same}
use Rattle.hp_code.proofs.laws.lowered_parts_mean_the_parts.Goals as goal

pub returns-clause-expressions : goal.returns-clause-expressions
returns-clause-expressions c = sat_same

pub returns-clause-preconditions : goal.returns-clause-preconditions
returns-clause-preconditions c = precondition_same

pub returns-clause-operators : goal.returns-clause-operators
returns-clause-operators c = operator_same
