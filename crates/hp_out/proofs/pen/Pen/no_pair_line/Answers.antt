use Rattle.std.proofs.Common.{◌∙◌}
use Rattle.hp_out.proofs.AnswerSteps.{no_pair_words}
use Rattle.hp_out.proofs.WriteSteps.{writes_same}
use Rattle.hp_out.proofs.pen.Pen.no_pair_line.Goals as goal

-- the words and the two counts, one behind the other
pub returns-clause-writes : goal.returns-clause-writes
returns-clause-writes g c =
    writes_same c.pieces.result _ _ _ _
    (no_pair_words c.args.number c.args.count c.as_bytes.result.now c.as_bytes-2.result.now
    (c.as_bytes.ensures.value ∙ c.format.ensures.text) (c.as_bytes-2.ensures.value ∙ c.format-2.ensures.text))
    c.pieces.ensures.writes
