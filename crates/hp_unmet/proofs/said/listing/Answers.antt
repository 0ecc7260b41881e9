use Rattle.std.proofs.Common.{refl}
use Rattle.hp_syntax.specs.ViewLaws.{pattern_of-list}
use Rattle.hp_unmet.proofs.SaidLemmas.{list_says, says_as}
use Rattle.hp_unmet.proofs.said.listing.Goals as goal

pub returns : goal.returns
returns c = λ ts a. says_as _ _ _ (pattern_of-list _ c.args.parts _ refl) (list_says _ _ ts a)
