use Rattle.std.proofs.Common.{refl}
use Rattle.hp_samples.proofs.Computed.{the_language, run}
use Rattle.hp_samples.proofs.Forests.{cut_branch_domain_spelled, endless_domain_spelled, not_endless_domain_spelled, not_fault_domain_spelled, weights_problem_spelled}
use Rattle.hp_samples.proofs.runs.cuts_are_not_false.Goals as goal

pub returns-clause-cut : goal.returns-clause-cut
unfolding the_language
returns-clause-cut c = run endless_domain_spelled weights_problem_spelled refl

pub returns-clause-none_left : goal.returns-clause-none_left
unfolding the_language
returns-clause-none_left c = run endless_domain_spelled weights_problem_spelled refl

pub returns-clause-negated : goal.returns-clause-negated
unfolding the_language
returns-clause-negated c = run not_endless_domain_spelled weights_problem_spelled refl

pub returns-clause-branch : goal.returns-clause-branch
unfolding the_language
returns-clause-branch c = run cut_branch_domain_spelled weights_problem_spelled refl

pub returns-clause-negated_fault : goal.returns-clause-negated_fault
unfolding the_language
returns-clause-negated_fault c = run not_fault_domain_spelled weights_problem_spelled refl
