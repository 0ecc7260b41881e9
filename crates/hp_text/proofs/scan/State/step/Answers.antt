use Rattle.std.proofs.Common.{◌≤◌, refl, arith}
use Rattle.hp_text.proofs.scan.State.step.Goals as goal
use Rattle.hp_text.proofs.PlaceLemmas.{gap_part}
use Rattle.hp_text.proofs.ScanSteps.{scanned_over_gap}

-- the gap goes on to the scan's end
pub returns-then-at-end-clause-scanned : goal.returns-then-at-end-clause-scanned
returns-then-at-end-clause-scanned c =
    let text = c.args.bytes.now in
    let end = c.args.end in
    let begun : c.args.self.now.at ≤ end = omega arith in
    let gap =
    gap_part text c.args.self.now.at end c.skip_gap-at.result c.skip_gap-at.ensures.gap begun c.if-at-end.true in
    scanned_over_gap text end end c.args.self.now _ c.requires.scanned c.requires.small (omega arith) refl refl gap
    (λ l. absurd (omega arith))

-- something stands behind the gap
pub pass_part-requires-clause-scanned : goal.pass_part-requires-clause-scanned
pass_part-requires-clause-scanned c =
    scanned_over_gap c.args.bytes.now c.args.end c.skip_gap-at.result c.args.self.now _ c.requires.scanned
    c.requires.small (omega arith) refl refl c.skip_gap-at.ensures.gap (λ l. c.skip_gap-at.ensures.place)
