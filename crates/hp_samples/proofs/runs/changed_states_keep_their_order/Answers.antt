use Rattle.std.proofs.Common.{refl}
use Rattle.hp_samples.proofs.Computed.{the_language, run}
use Rattle.hp_samples.proofs.Forests.{order_domain_spelled, order_kept_domain_spelled, two_places_problem_spelled}
use Rattle.hp_samples.proofs.runs.changed_states_keep_their_order.Goals as goal

pub returns-clause-moved : goal.returns-clause-moved
unfolding the_language
returns-clause-moved c = run order_domain_spelled two_places_problem_spelled refl

pub returns-clause-kept : goal.returns-clause-kept
unfolding the_language
returns-clause-kept c = run order_kept_domain_spelled two_places_problem_spelled refl
