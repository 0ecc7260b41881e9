use Rattle.std.proofs.Common.{refl}
use Rattle.hp_samples.proofs.Computed.{the_language, run}
use Rattle.hp_samples.proofs.Forests.{named_cost_domain_spelled, open_head_domain_spelled, quotient_domain_spelled, weights_problem_spelled, x_problem_spelled}
use Rattle.hp_samples.proofs.runs.faults_end_a_walk.Goals as goal

pub returns-clause-fault : goal.returns-clause-fault
unfolding the_language
returns-clause-fault c = run quotient_domain_spelled weights_problem_spelled refl

pub returns-clause-stopped : goal.returns-clause-stopped
unfolding the_language
returns-clause-stopped c = run quotient_domain_spelled weights_problem_spelled refl

pub returns-clause-cost : goal.returns-clause-cost
unfolding the_language
returns-clause-cost c = run named_cost_domain_spelled x_problem_spelled refl

pub returns-clause-head : goal.returns-clause-head
unfolding the_language
returns-clause-head c = run open_head_domain_spelled weights_problem_spelled refl
