use Rattle.std.proofs.Common.{length, ◌-◌, ◌≡◌, ◌<◌, ◌≤◌, true}
use Rattle.hp_syntax.specs.Text.{in_comment, IsGap}
use Rattle.hp_text.proofs.gap.comment_end.Given as goal

abbrev pub invariant-loop-end : goal.invariant-loop-end
invariant-loop-end l = record {
  some : l.from < l.end;
  within : l.end ≤ length l.bytes;
  gap : IsGap l.bytes l.from l.end;
  inside : in_comment l.bytes l.end ≡ true;
}

abbrev pub decreases-loop-end : goal.decreases-loop-end
decreases-loop-end l = length l.bytes - l.end
