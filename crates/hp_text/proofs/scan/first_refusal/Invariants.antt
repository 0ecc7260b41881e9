use Rattle.std.proofs.Common.{◌-◌}
use Rattle.hp_text.specs.Scan.{IsScanned}
use Rattle.hp_text.proofs.scan.first_refusal.Given as goal

abbrev pub invariant-loop-state : goal.invariant-loop-state
invariant-loop-state l = IsScanned l.bytes l.end l.state

abbrev pub decreases-loop-state : goal.decreases-loop-state
decreases-loop-state l = l.end - l.state.at
