use Rattle.std.proofs.Common.{refl}
use Rattle.hp_words.proofs.samples.makings_are_read.Goals as goal

pub returns-clause-small : goal.returns-clause-small
returns-clause-small c = refl

pub returns-clause-great : goal.returns-clause-great
returns-clause-great c = refl

pub returns-clause-no_package : goal.returns-clause-no_package
returns-clause-no_package c = refl

pub returns-clause-too_many : goal.returns-clause-too_many
returns-clause-too_many c = refl

pub returns-clause-too_large : goal.returns-clause-too_large
returns-clause-too_large c = refl

pub returns-clause-more : goal.returns-clause-more
returns-clause-more c = refl
