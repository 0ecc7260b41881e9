use Rattle.std.proofs.Common.{ℕ, ◌-◌, Option, Some, None, length}
use Rattle.hp_chains.specs.Entries.{IsNear}
use Rattle.hp_chains.proofs.chains.Chains.next_of.Given as goal

abbrev pub invariant-loop-at : goal.invariant-loop-at
invariant-loop-at l = IsNear l.key l.self.entries l.from l.at

-- the number of places from one on
abbrev pub left : ℕ → Option ℕ → ℕ
left count None = 0
left count (Some place) = count - place

abbrev pub decreases-loop-at : goal.decreases-loop-at
decreases-loop-at l = left (length l.self.entries) l.at
