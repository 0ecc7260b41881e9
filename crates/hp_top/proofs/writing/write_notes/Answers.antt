use Rattle.std.proofs.Common.{◌≤◌, arith, subst}
use Rattle.hp_check.specs.NoteViews.{note_of}
use Rattle.hp_out.specs.Lines.{note_text}
use Rattle.hp_out.specs.Writing.{Wrote, sink_run}
use Rattle.hp_telling.specs.Telling.{Halts}
use Rattle.hp_top.proofs.NoteSteps.{halts_within, wrote_within}
use Rattle.hp_top.proofs.writing.write_notes.Goals as goal

-- a stop of a note, behind those before it, is one of all
pub returns-in-Err-clause-err : goal.returns-in-Err-clause-err
returns-in-Err-clause-err g c =
    let run =
    sink_run (g.K.Sink.faults c.loop-note.out) (g.K.Sink.faults c.write_note.new.out) (g.K.Sink.bytes c.loop-note.out)
    (g.K.Sink.bytes c.write_note.new.out) in
    halts_within note_text note_of c.args.notes.now c.loop-note.note-index _ c.loop-note-test.true c.in-Err.halt
    (g.K.Sink.faults c.args.out.now) (g.K.Sink.faults c.loop-note.out) (g.K.Sink.faults c.write_note.new.out)
    (g.K.Sink.bytes c.args.out.now) (g.K.Sink.bytes c.loop-note.out) (g.K.Sink.bytes c.write_note.new.out)
    c.loop-note.invariant.later c.loop-note.invariant.wrote
    (subst (λ n. Halts c.in-Err.halt (note_text (note_of n)) run) c.note-item.is c.in-Err.ensures.err)

-- a note behind those before it
pub loop-note-preserved : goal.loop-note-preserved
loop-note-preserved g c =
    let before : g.K.Sink.faults c.args.out.now ≤ g.K.Sink.faults c.loop-note.out = c.loop-note.invariant.later in
    let after : g.K.Sink.faults c.loop-note.out ≤ g.K.Sink.faults c.write_note.new.out = c.in_default.ensures.later in
    record {
      wrote =
          wrote_within note_text note_of c.args.notes.now c.loop-note.note-index _ c.loop-note-test.true
          (g.K.Sink.bytes c.args.out.now) (g.K.Sink.bytes c.loop-note.out) (g.K.Sink.bytes c.write_note.new.out)
          c.loop-note.invariant.wrote
          (subst
          (λ n. Wrote (note_text (note_of n)) (g.K.Sink.bytes c.loop-note.out) (g.K.Sink.bytes c.write_note.new.out))
          c.note-item.is c.in_default.ensures.ok);
      later = omega arith;
    }
