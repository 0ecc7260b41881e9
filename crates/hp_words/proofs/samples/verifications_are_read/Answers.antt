use Rattle.std.proofs.Common.{refl}
use Rattle.hp_words.proofs.samples.verifications_are_read.Goals as goal

pub returns-clause-usual : goal.returns-clause-usual
returns-clause-usual c = refl

pub returns-clause-options : goal.returns-clause-options
returns-clause-options c = refl

pub returns-clause-other_order : goal.returns-clause-other_order
returns-clause-other_order c = refl

pub returns-clause-plan_like_option : goal.returns-clause-plan_like_option
returns-clause-plan_like_option c = refl

pub returns-clause-too_deep : goal.returns-clause-too_deep
returns-clause-too_deep c = refl

pub returns-clause-no_depth : goal.returns-clause-no_depth
returns-clause-no_depth c = refl

pub returns-clause-no_plan : goal.returns-clause-no_plan
returns-clause-no_plan c = refl

pub returns-clause-no_number : goal.returns-clause-no_number
returns-clause-no_number c = refl

pub returns-clause-states : goal.returns-clause-states
returns-clause-states c = refl

pub returns-clause-paths : goal.returns-clause-paths
returns-clause-paths c = refl

pub returns-clause-copies : goal.returns-clause-copies
returns-clause-copies c = refl

pub returns-clause-no_pair : goal.returns-clause-no_pair
returns-clause-no_pair c = refl

pub returns-clause-pair_twice : goal.returns-clause-pair_twice
returns-clause-pair_twice c = refl
