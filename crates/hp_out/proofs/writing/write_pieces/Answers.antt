use Rattle.hp_out.proofs.WriteSteps.{proper_within, writes_prefix}
use Rattle.hp_out.proofs.writing.write_pieces.Goals as goal

-- the earlier pieces and a proper prefix of this one are a proper prefix of all
pub returns-in_err-write_all-clause-writes : goal.returns-in_err-write_all-clause-writes
returns-in_err-write_all-clause-writes g c =
    writes_prefix _ _ _ _ c.from_residual.ensures.0
    (proper_within (λ p. p.now) c.args.pieces.now c.loop-piece.piece-index _ _ _ _ c.loop-piece-test.true
    c.loop-piece.invariant.wrote c.in_err-write_all.ensures.writes)
