use Rattle.std.proofs.Common.{refl}
use Rattle.hp_syntax.specs.Text.{spelling_of}
use Rattle.hp_syntax.specs.Samples.{basic_text, basic_forest, swap_text, swap_forest, two_text, two_forest, fetch_text, fetch_forest, empty_text, empty_forest}
use Rattle.hp_syntax.proofs.Spelled.{tested}
use Rattle.hp_syntax.proofs.samples.samples_are_spelled.Goals as goal

pub returns-clause-basic : goal.returns-clause-basic
unfolding spelling_of
returns-clause-basic c = tested basic_text basic_forest refl

pub returns-clause-swap : goal.returns-clause-swap
unfolding spelling_of
returns-clause-swap c = tested swap_text swap_forest refl

pub returns-clause-two : goal.returns-clause-two
unfolding spelling_of
returns-clause-two c = tested two_text two_forest refl

pub returns-clause-fetch : goal.returns-clause-fetch
unfolding spelling_of
returns-clause-fetch c = tested fetch_text fetch_forest refl

pub returns-clause-empty : goal.returns-clause-empty
unfolding spelling_of
returns-clause-empty c = tested empty_text empty_forest refl
