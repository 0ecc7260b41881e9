use Rattle.std.proofs.Common.{refl}
use Rattle.hp_words.proofs.samples.searches_are_read.Goals as goal

pub returns-clause-usual : goal.returns-clause-usual
returns-clause-usual c = refl

pub returns-clause-levels : goal.returns-clause-levels
returns-clause-levels c = refl

pub returns-clause-too_deep : goal.returns-clause-too_deep
returns-clause-too_deep c = refl

pub returns-clause-states : goal.returns-clause-states
returns-clause-states c = refl

pub returns-clause-paths : goal.returns-clause-paths
returns-clause-paths c = refl

pub returns-clause-copies : goal.returns-clause-copies
returns-clause-copies c = refl

pub returns-clause-no_depth : goal.returns-clause-no_depth
returns-clause-no_depth c = refl

pub returns-clause-pair : goal.returns-clause-pair
returns-clause-pair c = refl
