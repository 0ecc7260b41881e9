use Rattle.std.proofs.Common.{◌∙◌, arith}
use Rattle.hp_syntax.specs.declared.limits.TheConstants.{LARGEST_TEXT}
use Rattle.hp_doctor.proofs.LoadingSteps.{full, ended, grown_left}
use Rattle.hp_doctor.proofs.loading.read_rest.Goals.{else-loop-which-test, then-loop-which-test+in_ok-count+then-count-eq0}
use Rattle.hp_doctor.proofs.loading.read_rest.Goals as goal

pub loop-which-preserved : goal.loop-which-preserved
loop-which-preserved g c = record {
  room = omega (arith, c.in_ok-count.ensures.length.0, c.in_ok-count.ensures.length.1);
  came =
      grown_left c.in_ok-count.count c.loop-which.bytes.items _ _ _ _ c.loop-which.invariant.came
      c.in_ok-count.ensures.grown;
  begun = c.read_more.ensures.begun;
  files = λ n. c.read_more.ensures.files n ∙ c.loop-which.invariant.files n;
  later = λ w. omega (arith, c.loop-which.invariant.later w, c.read_more.ensures.later w);
}

pub returns-clause-bytes : goal.returns-clause-bytes
returns-clause-bytes g c =
    elim c.loop-which-test.branch [
      | else-loop-which-test w ↦
          rw w.bytes-is (full LARGEST_TEXT c.loop-which.bytes.items _ _ c.loop-which.invariant.came (omega arith))
      | then-loop-which-test+in_ok-count+then-count-eq0 w ↦
          rw w.bytes-is
          (ended LARGEST_TEXT c.loop-which.bytes.items _ w.in_ok-count.count _ _ _ c.loop-which.invariant.came
          w.in_ok-count.ensures.grown w.if-count-eq0.true (w.in_ok-count.ensures.length.0) c.loop-which.invariant.room)
    ]
