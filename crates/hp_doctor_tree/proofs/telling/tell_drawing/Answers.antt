use Rattle.std.proofs.Common.{◌++◌}
use Rattle.std.specs.List.{flat_map}
use Rattle.hp_doctor.proofs.RemarkSteps.{err_behind, halts_longer, ok_behind}
use Rattle.hp_doctor.specs.Texts.{file_of}
use Rattle.hp_out.specs.Writing.{sink_run}
use Rattle.hp_doctor_tree.specs.Drawings.{closing, drawing_of, entry_text, opening}
use Rattle.hp_doctor_tree.proofs.telling.tell_drawing.Goals as goal

-- a stop of the rest is one behind what stands first
pub returns-in-Ok-clause-err : goal.returns-in-Ok-clause-err
returns-in-Ok-clause-err g c =
    let w = drawing_of c.args.drawing.now in
    let rest = flat_map (entry_text (file_of c.args.file.now) w) c.args.order.now ++ closing w in
    err_behind c.tell_rest.result (opening w.dot) rest
    (g.K.Sink.faults c.args.out.now) (g.K.Sink.faults c.write.new.out) (g.K.Sink.faults c.tell_rest.new.out)
    (g.K.Sink.bytes c.args.out.now) (g.K.Sink.bytes c.write.new.out) (g.K.Sink.bytes c.tell_rest.new.out)
    (rw c.opening.ensures at c.in-Ok.ensures.ok) c.write.ensures.later c.tell_rest.ensures.err

-- the rest is written behind it
pub returns-in-Ok-clause-ok : goal.returns-in-Ok-clause-ok
returns-in-Ok-clause-ok g c =
    let w = drawing_of c.args.drawing.now in
    let rest = flat_map (entry_text (file_of c.args.file.now) w) c.args.order.now ++ closing w in
    ok_behind c.tell_rest.result (opening w.dot) rest
    (g.K.Sink.faults c.args.out.now) (g.K.Sink.faults c.write.new.out) (g.K.Sink.faults c.tell_rest.new.out)
    (g.K.Sink.bytes c.args.out.now) (g.K.Sink.bytes c.write.new.out) (g.K.Sink.bytes c.tell_rest.new.out)
    (rw c.opening.ensures at c.in-Ok.ensures.ok) c.tell_rest.ensures.ok

-- a stop of what stands first is one of all
pub returns-in-Err-clause-err : goal.returns-in-Err-clause-err
returns-in-Err-clause-err g c =
    let w = drawing_of c.args.drawing.now in
    halts_longer c.in-Err.halt (opening w.dot)
    (flat_map (entry_text (file_of c.args.file.now) w) c.args.order.now ++ closing w)
    (sink_run (g.K.Sink.faults c.args.out.now) (g.K.Sink.faults c.write.new.out) (g.K.Sink.bytes c.args.out.now)
    (g.K.Sink.bytes c.write.new.out))
    (rw c.opening.ensures at c.in-Err.ensures.err)
