use Rattle.std.specs.List.{flat_map}
use Rattle.hp_doctor.proofs.RemarkSteps.{err_behind, halts_longer, ok_behind}
use Rattle.hp_doctor.specs.Texts.{file_of}
use Rattle.hp_out.specs.Writing.{sink_run}
use Rattle.hp_doctor_tree.specs.Drawings.{closing, drawing_of, entry_text}
use Rattle.hp_doctor_tree.proofs.telling.tell_rest.Goals as goal

-- a stop of what stands behind the tasks is one behind them
pub returns-in-Ok-clause-err : goal.returns-in-Ok-clause-err
returns-in-Ok-clause-err g c =
    let w = drawing_of c.args.drawing.now in
    err_behind c.tell_closing.result (flat_map (entry_text (file_of c.args.file.now) w) c.args.order.now) (closing w)
    (g.K.Sink.faults c.args.out.now) (g.K.Sink.faults c.tell_entries.new.out) (g.K.Sink.faults c.tell_closing.new.out)
    (g.K.Sink.bytes c.args.out.now) (g.K.Sink.bytes c.tell_entries.new.out) (g.K.Sink.bytes c.tell_closing.new.out)
    c.in-Ok.ensures.ok c.tell_entries.ensures.later c.tell_closing.ensures.err

-- behind the tasks it is written
pub returns-in-Ok-clause-ok : goal.returns-in-Ok-clause-ok
returns-in-Ok-clause-ok g c =
    let w = drawing_of c.args.drawing.now in
    ok_behind c.tell_closing.result (flat_map (entry_text (file_of c.args.file.now) w) c.args.order.now) (closing w)
    (g.K.Sink.faults c.args.out.now) (g.K.Sink.faults c.tell_entries.new.out) (g.K.Sink.faults c.tell_closing.new.out)
    (g.K.Sink.bytes c.args.out.now) (g.K.Sink.bytes c.tell_entries.new.out) (g.K.Sink.bytes c.tell_closing.new.out)
    c.in-Ok.ensures.ok c.tell_closing.ensures.ok

-- a stop of a task is one of both
pub returns-in-Err-clause-err : goal.returns-in-Err-clause-err
returns-in-Err-clause-err g c =
    let w = drawing_of c.args.drawing.now in
    halts_longer c.in-Err.halt (flat_map (entry_text (file_of c.args.file.now) w) c.args.order.now) (closing w)
    (sink_run (g.K.Sink.faults c.args.out.now) (g.K.Sink.faults c.tell_entries.new.out) (g.K.Sink.bytes c.args.out.now)
    (g.K.Sink.bytes c.tell_entries.new.out))
    c.in-Err.ensures.err
