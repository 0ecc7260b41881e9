use Rattle.hp_syntax.proofs.PlaceLemmas.{goes_on}
use Rattle.hp_syntax.proofs.laws.reading_goes_on_in_one_way.Goals as goal

pub returns-clause-some : goal.returns-clause-some
returns-clause-some c = goes_on
