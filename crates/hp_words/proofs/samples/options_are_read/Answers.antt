use Rattle.std.proofs.Common.{refl}
use Rattle.hp_words.proofs.samples.options_are_read.Goals as goal

pub returns-clause-none : goal.returns-clause-none
returns-clause-none c = refl

pub returns-clause-both : goal.returns-clause-both
returns-clause-both c = refl

pub returns-clause-other_order : goal.returns-clause-other_order
returns-clause-other_order c = refl

pub returns-clause-most : goal.returns-clause-most
returns-clause-most c = refl

pub returns-clause-too_many : goal.returns-clause-too_many
returns-clause-too_many c = refl

pub returns-clause-no_number : goal.returns-clause-no_number
returns-clause-no_number c = refl

pub returns-clause-twice : goal.returns-clause-twice
returns-clause-twice c = refl

pub returns-clause-copies : goal.returns-clause-copies
returns-clause-copies c = refl

pub returns-clause-copies_twice : goal.returns-clause-copies_twice
returns-clause-copies_twice c = refl

pub returns-clause-paths : goal.returns-clause-paths
returns-clause-paths c = refl

pub returns-clause-paths_twice : goal.returns-clause-paths_twice
returns-clause-paths_twice c = refl

pub returns-clause-unknown : goal.returns-clause-unknown
returns-clause-unknown c = refl

pub returns-clause-plan : goal.returns-clause-plan
returns-clause-plan c = refl

pub returns-clause-no_plan : goal.returns-clause-no_plan
returns-clause-no_plan c = refl

pub returns-clause-pair : goal.returns-clause-pair
returns-clause-pair c = refl
