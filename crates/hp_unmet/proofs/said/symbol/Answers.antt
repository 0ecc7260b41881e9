use Rattle.std.proofs.Common.{refl}
use Rattle.hp_syntax.specs.ViewLaws.{pattern_of-sym}
use Rattle.hp_unmet.proofs.SaidLemmas.{says_as, symbol_says}
use Rattle.hp_unmet.proofs.said.symbol.Goals as goal

pub returns : goal.returns
returns c = says_as _ _ _ (pattern_of-sym _ c.args.name refl) (symbol_says _ c.args.name)
