use Rattle.std.proofs.Common.{◌<◌, ◌≤◌, length, arith}
use Rattle.hp_text.proofs.gap.skip_gap.Goals as goal
use Rattle.hp_text.proofs.PlaceLemmas.{stop_here, stop_at_end}

-- the gap ends before the text does
pub returns-else-bytes-end-eq59-clause-stop : goal.returns-else-bytes-end-eq59-clause-stop
returns-else-bytes-end-eq59-clause-stop c =
    let text = c.args.bytes.now in
    let i = c.loop-end.end in
    let short : i < length text = omega arith in
    stop_here text i short (c.loop-end.invariant.stop short) c.if-bytes-end-eq59.false c.loop-end.invariant.place

-- the gap ends with the text
pub returns-after-loop-end-clause-stop : goal.returns-after-loop-end-clause-stop
returns-after-loop-end-clause-stop c =
    let i = c.loop-end.end in
    let within : i ≤ length c.args.bytes.now = c.loop-end.invariant.place.within in
    stop_at_end c.args.bytes.now i (omega arith)
