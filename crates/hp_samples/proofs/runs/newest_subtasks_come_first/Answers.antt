use Rattle.std.proofs.Common.{refl}
use Rattle.hp_samples.proofs.Computed.{the_language, run}
use Rattle.hp_samples.proofs.Forests.{any_order_problem_spelled, focus_domain_spelled, immediate_problem_spelled}
use Rattle.hp_samples.proofs.runs.newest_subtasks_come_first.Goals as goal

pub returns-clause-focus : goal.returns-clause-focus
unfolding the_language
returns-clause-focus c = run focus_domain_spelled any_order_problem_spelled refl

pub returns-clause-immediate : goal.returns-clause-immediate
unfolding the_language
returns-clause-immediate c = run focus_domain_spelled immediate_problem_spelled refl

pub returns-clause-paths : goal.returns-clause-paths
unfolding the_language
returns-clause-paths c = run focus_domain_spelled any_order_problem_spelled refl
