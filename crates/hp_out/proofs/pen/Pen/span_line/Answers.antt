use Rattle.std.proofs.Common.{arith, ◌++◌, codes}
use Rattle.std.proofs.lemmas.Grind.{common_steps}
use Rattle.hp_out.specs.Lines.{refused_line}
use Rattle.hp_syntax.specs.PlaceTexts.{at_span, span_text}
use Rattle.hp_out.proofs.WriteSteps.{first_failed, rest_written}
use Rattle.hp_out.proofs.pen.Pen.span_line.Goals as goal

-- the first words couldn't be written
pub returns-in_err-pieces-clause-writes : goal.returns-in_err-pieces-clause-writes
returns-in_err-pieces-clause-writes g c =
    first_failed _ _ _ _ (span_text c.args.span ++ codes "\n")
    (refused_line c.args.which (c.args.first.now ++ at_span c.args.word.now c.args.span)) _ _ c.from_residual.ensures.0
    c.in_err-pieces.was c.pieces.ensures.writes (grind (arith, common_steps))

-- the first words and then the span
pub returns-clause-writes : goal.returns-clause-writes
returns-clause-writes g c =
    rest_written _ _ _ _ _ _ _ c.in_ok-pieces.ensures.writes c.span_end.ensures.writes (grind (arith, common_steps))
