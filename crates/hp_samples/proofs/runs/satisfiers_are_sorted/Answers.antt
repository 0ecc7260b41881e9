use Rattle.std.proofs.Common.{refl}
use Rattle.hp_samples.proofs.Computed.{the_language, run}
use Rattle.hp_samples.proofs.Forests.{first_domain_spelled, sorted_cut_domain_spelled, sorted_domain_spelled, sorted_names_domain_spelled, sorted_unbound_domain_spelled, sorted_up_domain_spelled, weights_problem_spelled}
use Rattle.hp_samples.proofs.runs.satisfiers_are_sorted.Goals as goal

pub returns-clause-down : goal.returns-clause-down
unfolding the_language
returns-clause-down c = run sorted_domain_spelled weights_problem_spelled refl

pub returns-clause-up : goal.returns-clause-up
unfolding the_language
returns-clause-up c = run sorted_up_domain_spelled weights_problem_spelled refl

pub returns-clause-first : goal.returns-clause-first
unfolding the_language
returns-clause-first c = run first_domain_spelled weights_problem_spelled refl

pub returns-clause-unbound : goal.returns-clause-unbound
unfolding the_language
returns-clause-unbound c = run sorted_unbound_domain_spelled weights_problem_spelled refl

pub returns-clause-no_number : goal.returns-clause-no_number
unfolding the_language
returns-clause-no_number c = run sorted_names_domain_spelled weights_problem_spelled refl

pub returns-clause-cut_last : goal.returns-clause-cut_last
unfolding the_language
returns-clause-cut_last c = run sorted_cut_domain_spelled weights_problem_spelled refl
