use Rattle.hp_places.proofs.PartLemmas.{whole_part}
use Rattle.hp_places.proofs.laws.short_lines_are_whole.Goals as goal

pub returns : goal.returns
returns c = whole_part
