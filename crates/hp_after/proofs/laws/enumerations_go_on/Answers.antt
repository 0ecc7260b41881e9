use Rattle.hp_after.proofs.ContinueLemmas.{goes_on}
use Rattle.hp_after.proofs.laws.enumerations_go_on.Goals as goal

pub returns : goal.returns
returns c = goes_on
