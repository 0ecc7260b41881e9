use Rattle.std.proofs.Common.{◌<◌, length, refl, arith}
use Rattle.hp_text.proofs.gap.comment_end.Goals as goal
use Rattle.hp_text.proofs.gap.comment_end.Goals.{then-loop-end-test+else-bytes-end-ne10, else-loop-end-test}
use Rattle.hp_text.proofs.ByteLemmas.{comment_begins, comment_more, comment_byte}
use Rattle.hp_text.proofs.PlaceLemmas.{gap_none, gap_more, between_lines}

-- the semicolon
pub loop-end-init : goal.loop-end-init
loop-end-init c =
    let text = c.args.bytes.now in
    let from = c.args.from in
    let within : from < length text = c.requires.within in
    let begun = comment_begins text from within (c.requires.place.quiet within) c.requires.begins in
    record {
      some = omega arith;
      within = omega arith;
      gap = gap_more text from from (gap_none text from from refl) begun.0;
      inside = begun.1;
    }

-- one more byte of the comment
pub loop-end-preserved : goal.loop-end-preserved
loop-end-preserved c =
    let text = c.args.bytes.now in
    let i = c.loop-end.end in
    let so_far = c.loop-end.invariant in
    let some : c.args.from < i = so_far.some in
    let short : i < length text = omega arith in
    record {
      some = omega arith;
      within = omega arith;
      gap = gap_more text c.args.from i so_far.gap (comment_byte text i short so_far.inside);
      inside = comment_more text i so_far.inside c.if-bytes-end-ne10.true;
    }

-- the line feed is one more blank
pub returns-then-end-bytes-clause-gap : goal.returns-then-end-bytes-clause-gap
returns-then-end-bytes-clause-gap c =
    let text = c.args.bytes.now in
    let i = c.loop-end.end in
    let short : i < length text = c.if-end-bytes.true in
    gap_more text c.args.from i c.loop-end.invariant.gap (comment_byte text i short c.loop-end.invariant.inside)

-- behind it no comment is open
pub returns-then-end-bytes-clause-place : goal.returns-then-end-bytes-clause-place
returns-then-end-bytes-clause-place c =
    let text = c.args.bytes.now in
    let i = c.loop-end.end in
    let short : i < length text = c.if-end-bytes.true in
    elim c.loop-end-test.branch [
      | then-loop-end-test+else-bytes-end-ne10 w ↦ between_lines text i short c.loop-end.invariant.inside
          w.if-bytes-end-ne10.false
      | else-loop-end-test w ↦ absurd (omega arith)
    ]
