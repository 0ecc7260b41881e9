use Rattle.hp_places.proofs.PartLemmas.{place_in_part}
use Rattle.hp_places.proofs.laws.parts_have_their_places.Goals as goal

pub returns : goal.returns
returns c = place_in_part
