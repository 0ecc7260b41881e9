use Rattle.hp_mismatch.proofs.LawSteps.{first_reported}
use Rattle.hp_mismatch.proofs.laws.the_place_is_the_first.Goals as goal

pub returns : goal.returns
returns c = first_reported
