use Rattle.std.proofs.Common.{refl}
use Rattle.hp_samples.proofs.Computed.{the_language, run}
use Rattle.hp_samples.proofs.Forests.{cancel_domain_spelled, cancelled_once_problem_spelled, cancelled_twice_problem_spelled, guard_domain_spelled, guarded_problem_spelled}
use Rattle.hp_samples.proofs.runs.protected_atoms_stay.Goals as goal

pub returns-clause-guarded : goal.returns-clause-guarded
unfolding the_language
returns-clause-guarded c = run guard_domain_spelled guarded_problem_spelled refl

pub returns-clause-cancelled_once : goal.returns-clause-cancelled_once
unfolding the_language
returns-clause-cancelled_once c = run cancel_domain_spelled cancelled_once_problem_spelled refl

pub returns-clause-cancelled_twice : goal.returns-clause-cancelled_twice
unfolding the_language
returns-clause-cancelled_twice c = run cancel_domain_spelled cancelled_twice_problem_spelled refl
