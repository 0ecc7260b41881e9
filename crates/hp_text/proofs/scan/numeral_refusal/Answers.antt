use Rattle.std.proofs.Common.{◌∙◌, sym}
use Rattle.hp_text.proofs.SpellingLemmas.{no_numeral_passes, decimal_passes}
use Rattle.hp_text.proofs.scan.numeral_refusal.Goals as goal
use Rattle.hp_text.proofs.scan.numeral_refusal.Goals.{then-not-is_numeral-via-then-not-is_numeral, then-not-is_numeral-via-else-not-is_numeral+then-is_small_number}

-- a name and a small number are not refused
pub returns-then-not-is_numeral : goal.returns-then-not-is_numeral
returns-then-not-is_numeral c =
    elim c.then-not-is_numeral.branch [
      | then-not-is_numeral-via-then-not-is_numeral w ↦ sym (no_numeral_passes c.args.token.now c.args.from
          (sym c.is_numeral.ensures ∙ w.if-not-is_numeral.true))
      | then-not-is_numeral-via-else-not-is_numeral+then-is_small_number w ↦
          sym (decimal_passes c.args.token.now c.args.from
          (w.is_small_number.ensures.spelled w.if-is_small_number.true)
          (w.is_small_number.ensures.range w.if-is_small_number.true))
    ]
