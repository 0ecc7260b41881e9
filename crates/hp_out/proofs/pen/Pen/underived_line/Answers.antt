use Rattle.std.proofs.Common.{◌∙◌}
use Rattle.hp_out.proofs.AnswerSteps.{underived_words}
use Rattle.hp_out.proofs.WriteSteps.{writes_same}
use Rattle.hp_out.proofs.pen.Pen.underived_line.Goals as goal

-- the words and the count, one behind the other
pub returns-clause-writes : goal.returns-clause-writes
returns-clause-writes g c =
    writes_same c.pieces.result _ _ _ _
    (underived_words c.args.is_cut c.args.expansions c.underived_word.result.now c.as_bytes.result.now
    c.underived_word.ensures (c.as_bytes.ensures.value ∙ c.format.ensures.text))
    c.pieces.ensures.writes
