use Rattle.std.proofs.Common.{refl}
use Rattle.hp_following.proofs.laws.a_sample_computes.Goals as goal

pub returns : goal.returns
returns c = record {
  followed = refl;
  first = refl;
  root_alone = refl;
  cut = refl;
  whole = refl;
  derived = refl;
}
