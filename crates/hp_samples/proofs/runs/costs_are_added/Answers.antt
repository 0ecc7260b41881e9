use Rattle.std.proofs.Common.{refl}
use Rattle.hp_samples.proofs.Computed.{the_language, run}
use Rattle.hp_samples.proofs.Forests.{big_problem_spelled, half_cost_domain_spelled, large_cost_domain_spelled}
use Rattle.hp_samples.proofs.runs.costs_are_added.Goals as goal

pub returns-clause-halves : goal.returns-clause-halves
unfolding the_language
returns-clause-halves c = run half_cost_domain_spelled big_problem_spelled refl

pub returns-clause-large : goal.returns-clause-large
unfolding the_language
returns-clause-large c = run large_cost_domain_spelled big_problem_spelled refl
