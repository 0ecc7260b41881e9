use Rattle.std.proofs.Common.{◌≤◌, take}
use Rattle.std.specs.List.{flat_map}
use Rattle.hp_out.specs.Writing.{Wrote}
use Rattle.hp_out.proofs.writing.write_pieces.Given as goal

abbrev pub invariant-loop-piece : goal.invariant-loop-piece
invariant-loop-piece g l = record {
  wrote :
      Wrote (flat_map (λ p. p.now) (take l.piece-index l.pieces)) (g.K.Sink.bytes l.fn.sink)
      (g.K.Sink.bytes l.sink);
  later : g.K.Sink.faults l.fn.sink ≤ g.K.Sink.faults l.sink;
}
