use Rattle.std.proofs.Common.{◌≡◌, ◌≤◌, take}
use Rattle.hp_out.specs.Writing.{Wrote}
use Rattle.hp_doctor.specs.Explained.{left, told}
use Rattle.hp_doctor.specs.Texts.{texts_of}
use Rattle.hp_doctor.proofs.telling.tell_piece.Given as goal

abbrev pub invariant-loop-byte : goal.invariant-loop-byte
invariant-loop-byte g l = record {
  wrote :
      Wrote (told (texts_of l.fn.files) l.fn.line.items (take l.byte-index l.piece)) (g.K.Sink.bytes l.fn.out)
      (g.K.Sink.bytes l.out);
  kept : l.line.items ≡ left l.fn.line.items (take l.byte-index l.piece);
  later : g.K.Sink.faults l.fn.out ≤ g.K.Sink.faults l.out;
}
