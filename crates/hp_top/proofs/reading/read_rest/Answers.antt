use Rattle.std.proofs.Common.{◌+◌, ◌∙◌, arith}
use Rattle.hp_syntax.specs.declared.limits.TheConstants.{LARGEST_TEXT}
use Rattle.hp_top.proofs.ReadingSteps.{full, ended, left_takes, takes_more, grown_left}
use Rattle.hp_top.proofs.reading.read_rest.Goals.{else-loop-which-test, then-loop-which-test+in_ok-count+then-count-eq0}
use Rattle.hp_top.proofs.reading.read_rest.Goals as goal

pub loop-which-preserved : goal.loop-which-preserved
loop-which-preserved g c = record {
  room = omega (arith, c.in_ok-count.ensures.length.0, c.in_ok-count.ensures.length.1);
  left =
      grown_left c.in_ok-count.count c.loop-which.bytes.items _ _ _ _ c.loop-which.invariant.left
      c.in_ok-count.ensures.grown;
  begun = c.read_more.ensures.begun;
  others =
      λ w other. (
        (c.read_more.ensures.others w other).0 ∙ (c.loop-which.invariant.others w other).0,
        (c.read_more.ensures.others w other).1 ∙ (c.loop-which.invariant.others w other).1,
      );
  files = λ n. c.read_more.ensures.files n ∙ c.loop-which.invariant.files n;
  later = λ w. omega (arith, c.loop-which.invariant.later w, c.read_more.ensures.later w);
}

pub returns-clause-bytes : goal.returns-clause-bytes
returns-clause-bytes g c =
    elim c.loop-which-test.branch [
      | else-loop-which-test w ↦
          rw w.bytes-is (full LARGEST_TEXT c.loop-which.bytes.items _ _ c.loop-which.invariant.left (omega arith))
      | then-loop-which-test+in_ok-count+then-count-eq0 w ↦
          rw w.bytes-is
          (ended LARGEST_TEXT c.loop-which.bytes.items _ w.in_ok-count.count _ _ _ c.loop-which.invariant.left
          w.in_ok-count.ensures.grown w.if-count-eq0.true (w.in_ok-count.ensures.length.0) c.loop-which.invariant.room)
    ]

pub returns-in_err-count-clause-takes : goal.returns-in_err-count-clause-takes
returns-in_err-count-clause-takes g c =
    takes_more (LARGEST_TEXT + 1) _ c.loop-which.bytes.items _ _ _ c.loop-which.invariant.left c.read_more.ensures.takes
    (omega arith)

pub returns-clause-takes : goal.returns-clause-takes
returns-clause-takes g c =
    elim c.loop-which-test.branch [
      | else-loop-which-test w ↦
          rw w.folder-is
          (left_takes (LARGEST_TEXT + 1) c.loop-which.bytes.items _ _ c.loop-which.invariant.left
          c.loop-which.invariant.room)
      | then-loop-which-test+in_ok-count+then-count-eq0 w ↦
          rw w.folder-is
          (takes_more (LARGEST_TEXT + 1) _ c.loop-which.bytes.items _ _ _ c.loop-which.invariant.left
          w.read_more.ensures.takes (omega arith))
    ]
