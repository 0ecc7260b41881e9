use Rattle.std.proofs.Common.{refl}
use Rattle.hp_samples.proofs.Computed.{the_language, run}
use Rattle.hp_samples.proofs.Forests.{basic_domain_spelled, nothing_problem_spelled, swap_problem_spelled}
use Rattle.hp_samples.proofs.runs.the_second_branch_is_used.Goals as goal

pub returns-clause-whole : goal.returns-clause-whole
unfolding the_language
returns-clause-whole c = run basic_domain_spelled swap_problem_spelled refl

pub returns-clause-stopped : goal.returns-clause-stopped
unfolding the_language
returns-clause-stopped c = run basic_domain_spelled swap_problem_spelled refl

pub returns-clause-cut : goal.returns-clause-cut
unfolding the_language
returns-clause-cut c = run basic_domain_spelled swap_problem_spelled refl

pub returns-clause-enough : goal.returns-clause-enough
unfolding the_language
returns-clause-enough c = run basic_domain_spelled swap_problem_spelled refl

pub returns-clause-nothing_to_do : goal.returns-clause-nothing_to_do
unfolding the_language
returns-clause-nothing_to_do c = run basic_domain_spelled nothing_problem_spelled refl
