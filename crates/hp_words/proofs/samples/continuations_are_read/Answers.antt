use Rattle.std.proofs.Common.{refl}
use Rattle.hp_words.proofs.samples.continuations_are_read.Goals as goal

pub returns-clause-path : goal.returns-clause-path
returns-clause-path c = refl

pub returns-clause-empty : goal.returns-clause-empty
returns-clause-empty c = refl

pub returns-clause-pair : goal.returns-clause-pair
returns-clause-pair c = refl

pub returns-clause-any_order : goal.returns-clause-any_order
returns-clause-any_order c = refl

pub returns-clause-no_plan : goal.returns-clause-no_plan
returns-clause-no_plan c = refl

pub returns-clause-too_deep : goal.returns-clause-too_deep
returns-clause-too_deep c = refl

pub returns-clause-no_path : goal.returns-clause-no_path
returns-clause-no_path c = refl

pub returns-clause-nothing_behind : goal.returns-clause-nothing_behind
returns-clause-nothing_behind c = refl

pub returns-clause-leading_zero : goal.returns-clause-leading_zero
returns-clause-leading_zero c = refl

pub returns-clause-copies : goal.returns-clause-copies
returns-clause-copies c = refl

pub returns-clause-no_pair : goal.returns-clause-no_pair
returns-clause-no_pair c = refl

pub returns-clause-no_such_pair : goal.returns-clause-no_such_pair
returns-clause-no_such_pair c = refl

pub returns-clause-pair_twice : goal.returns-clause-pair_twice
returns-clause-pair_twice c = refl
