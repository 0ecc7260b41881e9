use Rattle.std.proofs.Common.{rules}
use Rattle.hp_terms.proofs.names.HeadKind.fits.Goals as goal

pub returns-then-is_plain-2 : goal.returns-then-is_plain-2
returns-then-is_plain-2 c = search rules
