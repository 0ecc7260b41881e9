use Rattle.std.proofs.Common.{◌≡◌, ◌≤◌, ◌+◌, ℕ, List, Some, arith, length, map, refl, slice_get, subst}
use Rattle.hp_out.specs.Writing.{Wrote, sink_run}
use Rattle.hp_syntax.specs.Views.{pair_of}
use Rattle.hp_doctor_why.specs.Queries.{asked_of, files_of, read_problem}
use Rattle.hp_doctor_why.specs.Told.{StopsAt, TellsPair}
use Rattle.hp_doctor_why.proofs.PairSteps.{ToldSoFar, count_is, last_is, none_told, one_told, pair_there, stopped_there}
use Rattle.hp_doctor_why.proofs.telling.tell_pairs.Goals as goal

pub loop-number-init : goal.loop-number-init
loop-number-init g c =
    let q = c.args.query in
    record {
      told =
          none_told (files_of q) (asked_of q) (g.K.Sink.bytes c.args.out.now);
      later = omega arith;
    }

pub tell_pair-requires-clause-at : goal.tell_pair-requires-clause-at
tell_pair-requires-clause-at g c = (
  c.loop-number.number,
  subst (λ ps. slice_get (map pair_of ps) c.loop-number.number ≡ Some (pair_of c.index-pairs-number.result))
      c.as_slice-pairs.ensures.value
      (pair_there c.as_slice-pairs.result.now c.loop-number.number c.index-pairs-number.result c.loop-number-test.true
      c.index-pairs-number.is),
)

-- one more pair was told
pub loop-number-preserved : goal.loop-number-preserved
loop-number-preserved g c =
    let q = c.args.query in
    let i = c.loop-number.number in
    let pair = c.index-pairs-number.result in
    let before : g.K.Sink.faults c.args.out.now ≤ g.K.Sink.faults c.loop-number.out = c.loop-number.invariant.later in
    let after : g.K.Sink.faults c.loop-number.out ≤ g.K.Sink.faults c.tell_pair.new.out = c.in_default.ensures.later in
    record {
      told =
          one_told (files_of q) (asked_of q) i (pair_of pair)
          (g.K.Sink.bytes c.args.out.now) (g.K.Sink.bytes c.loop-number.out) (g.K.Sink.bytes c.tell_pair.new.out)
          (subst (λ ps. slice_get (map pair_of ps) i ≡ Some (pair_of pair)) c.as_slice-pairs.ensures.value
          (pair_there c.as_slice-pairs.result.now i pair c.loop-number-test.true c.index-pairs-number.is))
          c.loop-number.invariant.told
          (subst (λ n. (text : List ℕ) × TellsPair (files_of q) (asked_of q) (pair_of pair) (i + 1) n text
          × Wrote text (g.K.Sink.bytes c.loop-number.out) (g.K.Sink.bytes c.tell_pair.new.out))
          (count_is c.as_slice-pairs.result.now q.read.now.problem.pairs.items (length c.as_slice-pairs.result.now) refl
          c.as_slice-pairs.ensures.value) c.in_default.ensures.ok);
      later = omega arith;
    }

-- or the telling stopped there
pub returns-in-Err-clause-err : goal.returns-in-Err-clause-err
returns-in-Err-clause-err g c =
    let q = c.args.query in
    let i = c.loop-number.number in
    let pair = c.index-pairs-number.result in
    stopped_there (files_of q) (asked_of q) i (pair_of pair)
    (g.K.Sink.faults c.args.out.now) (g.K.Sink.faults c.loop-number.out) (g.K.Sink.faults c.tell_pair.new.out)
    (g.K.Sink.bytes c.args.out.now) (g.K.Sink.bytes c.loop-number.out) (g.K.Sink.bytes c.tell_pair.new.out)
    c.in-Err.halt c.loop-number.invariant.later
    (subst (λ ps. slice_get (map pair_of ps) i ≡ Some (pair_of pair)) c.as_slice-pairs.ensures.value
    (pair_there c.as_slice-pairs.result.now i pair c.loop-number-test.true c.index-pairs-number.is))
    c.loop-number.invariant.told
    (subst (λ n. StopsAt (files_of q) (asked_of q) (pair_of pair) (i + 1) n
    (sink_run (g.K.Sink.faults c.loop-number.out) (g.K.Sink.faults c.tell_pair.new.out)
    (g.K.Sink.bytes c.loop-number.out) (g.K.Sink.bytes c.tell_pair.new.out)) c.in-Err.halt)
    (count_is c.as_slice-pairs.result.now q.read.now.problem.pairs.items (length c.as_slice-pairs.result.now) refl
    c.as_slice-pairs.ensures.value)
    c.in-Err.ensures.err)

pub returns-in-Err-clause-later : goal.returns-in-Err-clause-later
returns-in-Err-clause-later g c =
    let before : g.K.Sink.faults c.args.out.now ≤ g.K.Sink.faults c.loop-number.out = c.loop-number.invariant.later in
    let after : g.K.Sink.faults c.loop-number.out ≤ g.K.Sink.faults c.tell_pair.new.out = c.in-Err.ensures.later in
    omega arith

-- after the last pair all were told
pub returns-clause-ok : goal.returns-clause-ok
returns-clause-ok g c =
    let q = c.args.query in
    let all : c.loop-number.number ≡ length (read_problem q).pairs =
    last_is c.as_slice-pairs.result.now q.read.now.problem.pairs.items c.loop-number.number c.loop-number-test.false
    c.loop-number.auto.number-end c.as_slice-pairs.ensures.value in
    subst (λ k. ToldSoFar (files_of q) (asked_of q) k
    (g.K.Sink.bytes c.args.out.now) (g.K.Sink.bytes c.loop-number.out)) all c.loop-number.invariant.told

pub returns-clause-later : goal.returns-clause-later
returns-clause-later g c = c.loop-number.invariant.later
