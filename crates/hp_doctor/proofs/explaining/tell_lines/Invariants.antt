use Rattle.std.proofs.Common.{◌≤◌}
use Rattle.hp_out.specs.Writing.{sink_run}
use Rattle.hp_doctor.specs.Telling.{IsThrough}
use Rattle.hp_doctor.specs.Texts.{texts_of}
use Rattle.hp_doctor.proofs.explaining.tell_lines.Given as goal

abbrev pub invariant-loop : goal.invariant-loop
invariant-loop g l =
    let sink = g.K.Sink in
    let pieces = g.I.Pieces in
    record {
      through :
          IsThrough (texts_of l.fn.files) l.counter l.line.items (pieces.rest l.fn.input) (pieces.rest l.input)
          (sink_run (sink.faults l.fn.out) (sink.faults l.out) (sink.bytes l.fn.out) (sink.bytes l.out));
      later : sink.faults l.fn.out ≤ sink.faults l.out;
      input_later : pieces.faults l.fn.input ≤ pieces.faults l.input;
    }
