use Rattle.std.proofs.Common.{◌≤◌, take, map}
use Rattle.std.specs.List.{flat_map}
use Rattle.hp_check.specs.NoteViews.{note_of}
use Rattle.hp_out.specs.Lines.{note_text}
use Rattle.hp_out.specs.Writing.{Wrote}
use Rattle.hp_top.proofs.writing.write_notes.Given as goal

abbrev pub invariant-loop-note : goal.invariant-loop-note
invariant-loop-note g l = record {
  wrote :
      Wrote (flat_map note_text (map note_of (take l.note-index l.notes))) (g.K.Sink.bytes l.fn.out)
      (g.K.Sink.bytes l.out);
  later : g.K.Sink.faults l.fn.out ≤ g.K.Sink.faults l.out;
}
