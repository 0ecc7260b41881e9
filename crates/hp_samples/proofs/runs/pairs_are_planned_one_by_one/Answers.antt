use Rattle.std.proofs.Common.{refl}
use Rattle.hp_samples.proofs.Computed.{the_language, run}
use Rattle.hp_samples.proofs.Forests.{basic_domain_spelled, second_fails_problem_spelled, sorted_unbound_domain_spelled, two_pairs_problem_spelled, weights_twice_problem_spelled}
use Rattle.hp_samples.proofs.runs.pairs_are_planned_one_by_one.Goals as goal

pub returns-clause-both : goal.returns-clause-both
unfolding the_language
returns-clause-both c = run basic_domain_spelled two_pairs_problem_spelled refl

pub returns-clause-second_fails : goal.returns-clause-second_fails
unfolding the_language
returns-clause-second_fails c = run basic_domain_spelled second_fails_problem_spelled refl

pub returns-clause-faults : goal.returns-clause-faults
unfolding the_language
returns-clause-faults c = run sorted_unbound_domain_spelled weights_twice_problem_spelled refl
