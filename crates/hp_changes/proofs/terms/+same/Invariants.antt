use Rattle.std.proofs.Common.{◌≡◌}
use Rattle.hp_syntax.specs.GroundViews.{grounds_of}
use Rattle.hp_syntax.specs.Terms.{same_terms}
use Rattle.hp_changes.proofs.TermSteps.{are_left}
use Rattle.hp_changes.proofs.terms.+same.Given as goal

abbrev pub invariant-are_same-loop-place : goal.invariant-are_same-loop-place
invariant-are_same-loop-place l = are_left l.a l.b l.place ≡ same_terms (grounds_of l.a) (grounds_of l.b)
