use Rattle.std.proofs.Common.{length, ◌-◌}
use Rattle.hp_syntax.specs.Text.{IsGap}
use Rattle.hp_text.specs.Places.{IsBetween}
use Rattle.hp_text.proofs.gap.skip_blanks.Given as goal

abbrev pub invariant-loop-end : goal.invariant-loop-end
invariant-loop-end l = record { gap : IsGap l.bytes l.at l.end; place : IsBetween l.bytes l.end }

abbrev pub decreases-loop-end : goal.decreases-loop-end
decreases-loop-end l = length l.bytes - l.end
