use Rattle.std.proofs.Common.{arith}
use Rattle.std.proofs.lemmas.Grind.{common_steps}
use Rattle.hp_out.proofs.WriteSteps.{rest_written}
use Rattle.hp_out.proofs.pen.Pen.span_end.Goals as goal

-- the first offset and then the second
pub returns-clause-writes : goal.returns-clause-writes
returns-clause-writes g c =
    rest_written _ _ _ _ _ _ _ c.in_ok-pieces.ensures.writes c.pieces-2.ensures.writes (grind (arith, common_steps))
