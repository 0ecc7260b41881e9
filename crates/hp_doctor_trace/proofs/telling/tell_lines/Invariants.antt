use Rattle.std.proofs.Common.{◌≤◌}
use Rattle.hp_doctor.specs.Texts.{texts_of}
use Rattle.hp_out.specs.Writing.{Wrote}
use Rattle.hp_syntax.specs.Views.{domain_of}
use Rattle.hp_doctor_trace.specs.Lines.{lines_text}
use Rattle.hp_doctor_trace.proofs.telling.tell_lines.Given as goal

abbrev pub invariant-loop-number : goal.invariant-loop-number
invariant-loop-number g l = record {
  wrote :
      Wrote (lines_text (texts_of l.fn.files) (domain_of l.fn.domain).rules l.fn.visits l.number)
      (g.K.Sink.bytes l.fn.out) (g.K.Sink.bytes l.out);
  later : g.K.Sink.faults l.fn.out ≤ g.K.Sink.faults l.out;
}
