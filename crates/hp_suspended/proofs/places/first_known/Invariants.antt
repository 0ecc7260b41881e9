use Rattle.std.proofs.Common.{ℕ, ◌<◌}
use Rattle.hp_suspended.specs.PlaceSteps.{IsKnownAt}
use Rattle.hp_suspended.proofs.places.first_known.Given as goal

abbrev pub invariant-loop-number : goal.invariant-loop-number
invariant-loop-number l = (k cell : ℕ) → k < l.number → IsKnownAt l.goal k cell → ⊥
