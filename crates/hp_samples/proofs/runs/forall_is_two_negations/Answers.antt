use Rattle.std.proofs.Common.{refl}
use Rattle.hp_samples.proofs.Computed.{the_language, run}
use Rattle.hp_samples.proofs.Forests.{all_above_0_domain_spelled, all_above_1_domain_spelled, clear_domain_spelled, clear_problem_spelled, weights_problem_spelled}
use Rattle.hp_samples.proofs.runs.forall_is_two_negations.Goals as goal

pub returns-clause-all : goal.returns-clause-all
unfolding the_language
returns-clause-all c = run all_above_0_domain_spelled weights_problem_spelled refl

pub returns-clause-not_all : goal.returns-clause-not_all
unfolding the_language
returns-clause-not_all c = run all_above_1_domain_spelled weights_problem_spelled refl

pub returns-clause-deleted : goal.returns-clause-deleted
unfolding the_language
returns-clause-deleted c = run clear_domain_spelled clear_problem_spelled refl
