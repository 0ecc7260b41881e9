use Rattle.std.proofs.Common.{refl}
use Rattle.hp_samples.proofs.Computed.{the_language, run}
use Rattle.hp_samples.proofs.Forests.{either_domain_spelled, weights_problem_spelled}
use Rattle.hp_samples.proofs.runs.each_satisfier_is_a_derivation.Goals as goal

pub returns : goal.returns
unfolding the_language
returns c = run either_domain_spelled weights_problem_spelled refl
