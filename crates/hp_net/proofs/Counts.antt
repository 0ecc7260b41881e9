-- Counts that stay at their ends.
use Rattle.std.proofs.Common.{◌≡◌, ℕ, ◌+◌, ◌-◌, ◌^◌, min, arith}
use Rattle.hp_syntax.specs.Walk.{count_told}

-- one more is told where one more is counted
pub count_on : (l m n : ℕ) → m ≡ count_told n → l ≡ min (m + 1) (2 ^ 64 - 1) → l ≡ count_told (n + 1)
count_on l m n e h = omega arith
