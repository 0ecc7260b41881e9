use Rattle.std.proofs.Common.{map, codes}
use Rattle.hp_check.specs.NoteViews.{note_of}
use Rattle.hp_top.specs.CheckTexts.{notes_text}
use Rattle.hp_telling.proofs.TellingLemmas.{ok_after, err_after}
use Rattle.hp_top.proofs.checking.tell_notes.Goals as goal

-- a stop of the last line is one behind the notes
pub returns-in-Ok-clause-err : goal.returns-in-Ok-clause-err
returns-in-Ok-clause-err g c =
    err_after c.write.result (notes_text (map note_of c.args.notes.now)) (codes "accepted\n")
    (g.K.Sink.faults c.args.out.now) (g.K.Sink.faults c.write_notes.new.out) (g.K.Sink.faults c.write.new.out)
    (g.K.Sink.bytes c.args.out.now) (g.K.Sink.bytes c.write_notes.new.out) (g.K.Sink.bytes c.write.new.out)
    c.in-Ok.ensures.ok c.write_notes.ensures.later c.write.ensures.err

-- behind the notes the last line is written
pub returns-in-Ok-clause-ok : goal.returns-in-Ok-clause-ok
returns-in-Ok-clause-ok g c =
    ok_after c.write.result (notes_text (map note_of c.args.notes.now)) (codes "accepted\n")
    (g.K.Sink.faults c.args.out.now) (g.K.Sink.faults c.write_notes.new.out) (g.K.Sink.faults c.write.new.out)
    (g.K.Sink.bytes c.args.out.now) (g.K.Sink.bytes c.write_notes.new.out) (g.K.Sink.bytes c.write.new.out)
    c.in-Ok.ensures.ok c.write.ensures.ok
