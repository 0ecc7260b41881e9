use Rattle.std.proofs.Common.{refl}
use Rattle.hp_words.proofs.samples.deepenings_are_read.Goals as goal

pub returns-clause-usual : goal.returns-clause-usual
returns-clause-usual c = refl

pub returns-clause-options : goal.returns-clause-options
returns-clause-options c = refl

pub returns-clause-other_order : goal.returns-clause-other_order
returns-clause-other_order c = refl

pub returns-clause-too_deep : goal.returns-clause-too_deep
returns-clause-too_deep c = refl

pub returns-clause-no_limit : goal.returns-clause-no_limit
returns-clause-no_limit c = refl

pub returns-clause-two_numbers : goal.returns-clause-two_numbers
returns-clause-two_numbers c = refl

pub returns-clause-paths : goal.returns-clause-paths
returns-clause-paths c = refl

pub returns-clause-copies : goal.returns-clause-copies
returns-clause-copies c = refl

pub returns-clause-pair : goal.returns-clause-pair
returns-clause-pair c = refl

pub returns-clause-states_twice : goal.returns-clause-states_twice
returns-clause-states_twice c = refl
