use Rattle.std.proofs.Common.{◌≤◌, take}
use Rattle.std.specs.List.{flat_map}
use Rattle.hp_doctor.specs.Texts.{file_of}
use Rattle.hp_out.specs.Writing.{Wrote}
use Rattle.hp_doctor_tree.specs.Drawings.{drawing_of, entry_text}
use Rattle.hp_doctor_tree.proofs.telling.tell_entries.Given as goal

abbrev pub invariant-loop-number : goal.invariant-loop-number
invariant-loop-number g l = record {
  wrote :
      Wrote (flat_map (entry_text (file_of l.fn.file) (drawing_of l.fn.drawing)) (take l.number-index l.order))
      (g.K.Sink.bytes l.fn.out) (g.K.Sink.bytes l.out);
  later : g.K.Sink.faults l.fn.out ≤ g.K.Sink.faults l.out;
}
