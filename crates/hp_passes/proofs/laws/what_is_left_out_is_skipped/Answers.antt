use Rattle.hp_passes.proofs.PassLemmas.{skipped}
use Rattle.hp_passes.proofs.laws.what_is_left_out_is_skipped.Goals as goal

pub returns : goal.returns
returns g c = λ turn p s vs. skipped turn p s vs
