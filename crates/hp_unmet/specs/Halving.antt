-- Halving between a number of parts that are satisfied and one with which nothing is found.
use Rattle.std.specs.Prelude.{◌≡◌, ◌<◌, ◌≤◌, ℕ}
use Rattle.hp_syntax.specs.Events.{Finding, Satisfied, Nothing}
use Rattle.hp_unmet.specs.declared.unmet.Between.{Between}

-- so many of the first parts are satisfied, and with so many, which are no more than all, nothing is found
pub record IsBetween (found : ℕ → Finding) (count : ℕ) (b : Between) : Type 0 where
  pub met : found b.met.count ≡ Satisfied
  pub missing : found b.unmet ≡ Nothing
  pub below : b.met.count < b.unmet
  pub within : b.unmet ≤ count
