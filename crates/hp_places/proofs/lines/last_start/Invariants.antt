use Rattle.std.proofs.Common.{◌≤◌, ◌<◌, ◌-◌, length, slice_index}
use Rattle.hp_places.proofs.lines.last_start.Given as goal

abbrev pub invariant-loop-high : goal.invariant-loop-high
invariant-loop-high l = record {
  order : l.low < l.high;
  within : l.high ≤ length l.starts;
  begins : slice_index l.starts l.low ≤ l.offset;
  ends : l.high < length l.starts → l.offset < slice_index l.starts l.high;
}

abbrev pub decreases-loop-high : goal.decreases-loop-high
decreases-loop-high l = l.high - l.low
