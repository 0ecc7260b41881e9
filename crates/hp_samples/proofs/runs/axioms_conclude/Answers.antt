use Rattle.std.proofs.Common.{refl}
use Rattle.hp_samples.proofs.Computed.{the_language, run}
use Rattle.hp_samples.proofs.Forests.{big_domain_spelled, hidden_domain_spelled, weights_problem_spelled}
use Rattle.hp_samples.proofs.runs.axioms_conclude.Goals as goal

pub returns-clause-second : goal.returns-clause-second
unfolding the_language
returns-clause-second c = run big_domain_spelled weights_problem_spelled refl

pub returns-clause-hidden : goal.returns-clause-hidden
unfolding the_language
returns-clause-hidden c = run hidden_domain_spelled weights_problem_spelled refl

pub returns-clause-one_level : goal.returns-clause-one_level
unfolding the_language
returns-clause-one_level c = run big_domain_spelled weights_problem_spelled refl

pub returns-clause-no_level : goal.returns-clause-no_level
unfolding the_language
returns-clause-no_level c = run big_domain_spelled weights_problem_spelled refl
