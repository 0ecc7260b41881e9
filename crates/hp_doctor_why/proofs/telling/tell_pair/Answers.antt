use Rattle.std.proofs.Common.{OnOk, IfErr, subst}
use Rattle.hp_out.specs.Writing.{Wrote, sink_run}
use Rattle.hp_doctor.specs.Telling.{Halts}
use Rattle.hp_syntax.specs.Views.{pair_of}
use Rattle.hp_doctor_why.specs.Queries.{asked_of, files_of}
use Rattle.hp_doctor_why.proofs.PairSteps.{nothing_told, text_stopped, text_told}
use Rattle.hp_doctor_why.proofs.telling.tell_pair.Goals as goal

pub returns-in-Ok-clause-ok : goal.returns-in-Ok-clause-ok
returns-in-Ok-clause-ok g c =
    let q = c.args.query in
    text_told (files_of q) (asked_of q) (pair_of c.args.pair.now) c.args.number c.args.count c.write.result
    c.in-Ok.text.items (g.K.Sink.bytes c.args.out.now) (g.K.Sink.bytes c.write.new.out) c.in-Ok.ensures.tells
    (subst (λ x. OnOk c.write.result (Wrote x (g.K.Sink.bytes c.args.out.now) (g.K.Sink.bytes c.write.new.out)))
    c.as_slice.ensures.value c.write.ensures.ok)

pub returns-in-Ok-clause-err : goal.returns-in-Ok-clause-err
returns-in-Ok-clause-err g c =
    let q = c.args.query in
    let run = sink_run (g.K.Sink.faults c.args.out.now) (g.K.Sink.faults c.write.new.out)
    (g.K.Sink.bytes c.args.out.now) (g.K.Sink.bytes c.write.new.out) in
    text_stopped (files_of q) (asked_of q) (pair_of c.args.pair.now) c.args.number c.args.count c.write.result
    c.in-Ok.text.items run c.in-Ok.ensures.tells
    (subst (λ x. IfErr c.write.result (λ h. Halts h x run)) c.as_slice.ensures.value c.write.ensures.err)

pub returns-in-Err-clause-err : goal.returns-in-Err-clause-err
returns-in-Err-clause-err g c =
    let q = c.args.query in
    nothing_told (files_of q) (asked_of q) (pair_of c.args.pair.now) c.args.number c.args.count
    (g.K.Sink.faults c.args.out.now) (g.K.Sink.bytes c.args.out.now)
