use Rattle.std.proofs.Common.{◌≤◌, arith}
use Rattle.hp_doctor.specs.Texts.{file_of}
use Rattle.hp_doctor_tree.specs.Drawings.{drawing_of, entry_text}
use Rattle.hp_doctor_tree.proofs.TellingSteps.{halts_next, wrote_next}
use Rattle.hp_doctor_tree.proofs.telling.tell_entries.Goals as goal

-- a stop of a task, behind those before it, is one of all
pub returns-in-Err-clause-err : goal.returns-in-Err-clause-err
returns-in-Err-clause-err g c =
    let text = entry_text (file_of c.args.file.now) (drawing_of c.args.drawing.now) in
    let sink = g.K.Sink in
    halts_next text c.args.order.now c.loop-number.number-index c.loop-number-test.true c.in-Err.halt
    (sink.faults c.args.out.now) (sink.faults c.loop-number.out) (sink.faults c.tell_entry.new.out)
    (sink.bytes c.args.out.now) (sink.bytes c.loop-number.out) (sink.bytes c.tell_entry.new.out)
    c.loop-number.invariant.later c.loop-number.invariant.wrote c.in-Err.ensures.err

-- a task behind those before it
pub loop-number-preserved : goal.loop-number-preserved
loop-number-preserved g c =
    let text = entry_text (file_of c.args.file.now) (drawing_of c.args.drawing.now) in
    let before : g.K.Sink.faults c.args.out.now ≤ g.K.Sink.faults c.loop-number.out = c.loop-number.invariant.later in
    let after : g.K.Sink.faults c.loop-number.out ≤ g.K.Sink.faults c.tell_entry.new.out = c.in_default.ensures.later in
    record {
      wrote =
          wrote_next text c.args.order.now c.loop-number.number-index c.loop-number-test.true
          (g.K.Sink.bytes c.args.out.now) (g.K.Sink.bytes c.loop-number.out) (g.K.Sink.bytes c.tell_entry.new.out)
          c.loop-number.invariant.wrote c.in_default.ensures.ok;
      later = omega arith;
    }
