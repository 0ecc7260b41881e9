use Rattle.std.proofs.Common.{refl}
use Rattle.hp_samples.proofs.Computed.{the_language, run}
use Rattle.hp_samples.proofs.Forests.{any_of_twelve_problem_spelled, twelve_domain_spelled}
use Rattle.hp_samples.proofs.runs.plans_come_one_after_another.Goals as goal

pub returns : goal.returns
unfolding the_language
returns c = run twelve_domain_spelled any_of_twelve_problem_spelled refl
