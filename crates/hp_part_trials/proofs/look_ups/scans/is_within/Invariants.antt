use Rattle.std.proofs.Common.{◌≡◌, ◌<◌, ℕ, Some, None, length, get_or}
use Rattle.hp_part_trials.proofs.look_ups.scans.is_within.Given as goal

abbrev pub invariant-loop-place : goal.invariant-loop-place
invariant-loop-place l =
    (i a : ℕ) → i < l.place → get_or l.world.now.places i None ≡ Some a → a < length l.cells
