use Rattle.std.proofs.Common.{◌++◌, length, min}
use Rattle.hp_doctor.proofs.RemarkSteps.{err_behind, halts_longer, ok_behind}
use Rattle.hp_doctor.specs.Texts.{texts_of}
use Rattle.hp_out.specs.Writing.{sink_run}
use Rattle.hp_syntax.specs.Views.{domain_of}
use Rattle.hp_doctor_trace.specs.Lines.{closing, lines_text, opening}
use Rattle.hp_doctor_trace.proofs.telling.tell_trace.Goals as goal

-- a stop of the rest is one after what stands first
pub returns-in-Ok-clause-err : goal.returns-in-Ok-clause-err
returns-in-Ok-clause-err g c =
    let vs = c.args.visits.now in
    let rest = lines_text (texts_of c.args.files.now) (domain_of c.args.domain.now).rules vs (min c.args.most (length vs))
    ++ closing c.args.most (length vs) in
    err_behind c.tell_rest.result (opening vs) rest
    (g.K.Sink.faults c.args.out.now) (g.K.Sink.faults c.write.new.out) (g.K.Sink.faults c.tell_rest.new.out)
    (g.K.Sink.bytes c.args.out.now) (g.K.Sink.bytes c.write.new.out) (g.K.Sink.bytes c.tell_rest.new.out)
    (rw c.opening.ensures at c.in-Ok.ensures.ok) c.write.ensures.later c.tell_rest.ensures.err

-- the rest is written after it
pub returns-in-Ok-clause-ok : goal.returns-in-Ok-clause-ok
returns-in-Ok-clause-ok g c =
    let vs = c.args.visits.now in
    let rest = lines_text (texts_of c.args.files.now) (domain_of c.args.domain.now).rules vs (min c.args.most (length vs))
    ++ closing c.args.most (length vs) in
    ok_behind c.tell_rest.result (opening vs) rest
    (g.K.Sink.faults c.args.out.now) (g.K.Sink.faults c.write.new.out) (g.K.Sink.faults c.tell_rest.new.out)
    (g.K.Sink.bytes c.args.out.now) (g.K.Sink.bytes c.write.new.out) (g.K.Sink.bytes c.tell_rest.new.out)
    (rw c.opening.ensures at c.in-Ok.ensures.ok) c.tell_rest.ensures.ok

-- a stop of what stands first is one of all
pub returns-in-Err-clause-err : goal.returns-in-Err-clause-err
returns-in-Err-clause-err g c =
    let vs = c.args.visits.now in
    halts_longer c.in-Err.halt (opening vs)
    (lines_text (texts_of c.args.files.now) (domain_of c.args.domain.now).rules vs (min c.args.most (length vs))
    ++ closing c.args.most (length vs))
    (sink_run (g.K.Sink.faults c.args.out.now) (g.K.Sink.faults c.write.new.out) (g.K.Sink.bytes c.args.out.now)
    (g.K.Sink.bytes c.write.new.out))
    (rw c.opening.ensures at c.in-Err.ensures.err)
