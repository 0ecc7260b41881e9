use Rattle.std.proofs.Common.{◌∙◌, sym}
use Rattle.hp_text.proofs.spelling.is_small_number.Goals as goal
use Rattle.hp_text.proofs.SpellingLemmas.{small_in_range}

-- a sign and so short a decimal are in range
pub returns-then-token-le-SMALL-clause-range : goal.returns-then-token-le-SMALL-clause-range
returns-then-token-le-SMALL-clause-range c =
    λ h. small_in_range c.args.token.now (sym c.is_well_spelled.ensures ∙ h) c.if-token-le-SMALL.true
