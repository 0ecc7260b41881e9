use Rattle.std.proofs.Common.{length, ◌-◌, ◌≡◌, ◌<◌, false, slice_index}
use Rattle.hp_syntax.specs.Text.{is_blank, IsGap}
use Rattle.hp_text.specs.Places.{IsBetween}
use Rattle.hp_text.proofs.gap.skip_gap.Given as goal

abbrev pub invariant-loop-end : goal.invariant-loop-end
invariant-loop-end l = record {
  gap : IsGap l.bytes l.at l.end;
  place : IsBetween l.bytes l.end;
  stop : l.end < length l.bytes → is_blank (slice_index l.bytes l.end) ≡ false;
}

abbrev pub decreases-loop-end : goal.decreases-loop-end
decreases-loop-end l = length l.bytes - l.end
