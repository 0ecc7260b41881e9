use Rattle.std.proofs.Common.{refl}
use Rattle.hp_samples.proofs.Computed.{the_language, run}
use Rattle.hp_samples.proofs.Forests.{travel_domain_spelled, trip_problem_spelled}
use Rattle.hp_samples.proofs.runs.travel_is_planned.Goals as goal

pub returns : goal.returns
unfolding the_language
returns c = run travel_domain_spelled trip_problem_spelled refl
