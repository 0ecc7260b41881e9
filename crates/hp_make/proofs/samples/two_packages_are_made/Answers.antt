use Rattle.std.proofs.Common.{refl}
use Rattle.std.specs.Fmt.{digits}
use Rattle.hp_make.proofs.samples.two_packages_are_made.Goals as goal

-- computed from the definitions
pub returns : goal.returns
unfolding digits
returns c = refl
