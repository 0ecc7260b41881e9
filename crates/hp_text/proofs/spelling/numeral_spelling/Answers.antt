use Rattle.std.proofs.Common.{◌∙◌, Bool, ap}
use Rattle.hp_text.specs.Spellings.{spelling_by, parts_value}
use Rattle.hp_text.proofs.SpellingLemmas.{decimal_spelled, no_decimal_spelled}
use Rattle.hp_text.proofs.spelling.numeral_spelling.Goals as goal

-- a decimal spells its thousandths
pub returns-in-Some : goal.returns-in-Some
returns-in-Some c =
    let whole = c.in-Some.whole.now in
    let decimals = c.in-Some.decimals.now in
    c.decimal_spelling.ensures
    ∙ ap (λ (m : Bool). spelling_by m (parts_value whole decimals)) c.is_negative.ensures
    ∙ decimal_spelled c.args.token.now whole decimals c.requires (rw c.without_sign.ensures at c.in-Some.ensures.some)

-- another numeral spells no number
pub returns-in-None : goal.returns-in-None
returns-in-None c = no_decimal_spelled c.args.token.now c.requires (rw c.without_sign.ensures at c.in-None.ensures.none)
