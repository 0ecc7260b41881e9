use Rattle.std.proofs.Common.{◌≡◌, false}
use Rattle.hp_syntax.specs.GroundViews.{ground_of}
use Rattle.hp_changes.proofs.TermSteps.{is_above}
use Rattle.hp_changes.proofs.terms.first_place.Given as goal

abbrev pub invariant-loop-place : goal.invariant-loop-place
invariant-loop-place l = is_above (ground_of l.term) l.terms l.place ≡ false
