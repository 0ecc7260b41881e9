use Rattle.std.proofs.Common.{◌≤◌, arith, subst}
use Rattle.hp_lint.specs.LintViews.{remark_of}
use Rattle.hp_out.specs.Writing.{Wrote, sink_run}
use Rattle.hp_doctor.specs.Linted.{remark_text}
use Rattle.hp_doctor.specs.Telling.{Halts}
use Rattle.hp_doctor.specs.Texts.{texts_of}
use Rattle.hp_doctor.proofs.RemarkSteps.{halts_at, wrote_at}
use Rattle.hp_doctor.proofs.linting.tell_each.Goals as goal

-- a stop of a remark, behind those before it, is one of all
pub returns-in-Err-clause-err : goal.returns-in-Err-clause-err
returns-in-Err-clause-err g c =
    let text = remark_text (texts_of c.args.files.now) in
    let sink = g.K.Sink in
    halts_at text remark_of c.args.remarks.now c.loop-remark.remark-index _ c.loop-remark-test.true c.in-Err.halt
    (sink.faults c.args.out.now) (sink.faults c.loop-remark.out) (sink.faults c.tell_remark.new.out)
    (sink.bytes c.args.out.now) (sink.bytes c.loop-remark.out) (sink.bytes c.tell_remark.new.out)
    c.loop-remark.invariant.later c.loop-remark.invariant.wrote
    (subst
    (λ n. Halts c.in-Err.halt (text (remark_of n))
    (sink_run (sink.faults c.loop-remark.out) (sink.faults c.tell_remark.new.out) (sink.bytes c.loop-remark.out)
    (sink.bytes c.tell_remark.new.out))) c.remark-item.is c.in-Err.ensures.err)

-- a remark behind those before it
pub loop-remark-preserved : goal.loop-remark-preserved
loop-remark-preserved g c =
    let text = remark_text (texts_of c.args.files.now) in
    let before : g.K.Sink.faults c.args.out.now ≤ g.K.Sink.faults c.loop-remark.out = c.loop-remark.invariant.later in
    let after : g.K.Sink.faults c.loop-remark.out ≤ g.K.Sink.faults c.tell_remark.new.out = c.in_default.ensures.later in
    record {
      wrote =
          wrote_at text remark_of c.args.remarks.now c.loop-remark.remark-index _ c.loop-remark-test.true
          (g.K.Sink.bytes c.args.out.now) (g.K.Sink.bytes c.loop-remark.out) (g.K.Sink.bytes c.tell_remark.new.out)
          c.loop-remark.invariant.wrote
          (subst
          (λ n. Wrote (text (remark_of n)) (g.K.Sink.bytes c.loop-remark.out) (g.K.Sink.bytes c.tell_remark.new.out))
          c.remark-item.is c.in_default.ensures.ok);
      later = omega arith;
    }
