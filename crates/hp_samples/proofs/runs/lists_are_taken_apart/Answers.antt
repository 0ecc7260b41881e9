use Rattle.std.proofs.Common.{refl}
use Rattle.hp_samples.proofs.Computed.{the_language, run}
use Rattle.hp_samples.proofs.Forests.{each_domain_spelled, each_problem_spelled}
use Rattle.hp_samples.proofs.runs.lists_are_taken_apart.Goals as goal

pub returns : goal.returns
unfolding the_language
returns c = run each_domain_spelled each_problem_spelled refl
