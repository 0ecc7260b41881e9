use Rattle.std.proofs.Common.{◌∙◌}
use Rattle.hp_out.proofs.AnswerSteps.{absent_words}
use Rattle.hp_out.proofs.WriteSteps.{writes_same}
use Rattle.hp_out.proofs.pen.Pen.absent_line.Goals as goal

-- the words and the count, one behind the other
pub returns-clause-writes : goal.returns-clause-writes
returns-clause-writes g c =
    writes_same c.pieces.result _ _ _ _
    (absent_words c.args.expansions c.as_bytes.result.now (c.as_bytes.ensures.value ∙ c.format.ensures.text))
    c.pieces.ensures.writes
