use Rattle.std.proofs.Common.{◌<◌, arith}
use Rattle.hp_doctor.specs.Texts.{texts_of}
use Rattle.hp_syntax.specs.Views.{domain_of}
use Rattle.hp_doctor_trace.proofs.LineSteps.{halts_line}
use Rattle.hp_doctor_trace.proofs.telling.tell_lines.Goals as goal

-- a stop of a visit, after those before it, is one of all
pub returns-in-Err-clause-err : goal.returns-in-Err-clause-err
returns-in-Err-clause-err g c =
    let sink = g.K.Sink in
    let less : c.loop-number.number < c.args.count = omega (arith, c.loop-number-test.true) in
    halts_line (texts_of c.args.files.now) (domain_of c.args.domain.now).rules c.args.visits.now c.loop-number.number
    c.args.count less c.in-Err.halt (sink.faults c.args.out.now) (sink.faults c.loop-number.out)
    (sink.faults c.tell_line.new.out) (sink.bytes c.args.out.now) (sink.bytes c.loop-number.out)
    (sink.bytes c.tell_line.new.out) c.loop-number.invariant.later c.loop-number.invariant.wrote c.in-Err.ensures.err
