use Rattle.hp_laws.proofs.FillLemmas.{goal_value, value_goal, bound_goal_faults}
use Rattle.hp_laws.proofs.term_laws.filling_is_valuing.Goals as goal

pub returns-clause-values : goal.returns-clause-values
returns-clause-values c = goal_value

pub returns-clause-ground : goal.returns-clause-ground
returns-clause-ground c = value_goal

pub returns-clause-faults : goal.returns-clause-faults
returns-clause-faults c = λ a e f h k. (bound_goal_faults a e f h k).0

pub returns-clause-faults_too : goal.returns-clause-faults_too
returns-clause-faults_too c = λ a e f h k. (bound_goal_faults a e f h k).1
