use Rattle.std.proofs.Common.{◌≡◌, ◌+◌}
use Rattle.hp_syntax.specs.GroundViews.{grounds_of}
use Rattle.hp_syntax.specs.Terms.{same_terms}
use Rattle.hp_mismatch.specs.ValueViews.{value_of}
use Rattle.hp_mismatch.proofs.ValueSteps.{are_left, term_size, terms_size}
use Rattle.hp_mismatch.proofs.values.+same.Given as goal

abbrev pub decreases-are_same : goal.decreases-are_same
decreases-are_same l = terms_size (grounds_of l.a.now)

abbrev pub decreases-is_list_of : goal.decreases-is_list_of
decreases-is_list_of l = terms_size (grounds_of l.parts.now) + 1

abbrev pub decreases-is_same : goal.decreases-is_same
decreases-is_same l = term_size (value_of l.a)

abbrev pub invariant-are_same-loop-place : goal.invariant-are_same-loop-place
invariant-are_same-loop-place l = are_left l.a l.b l.place ≡ same_terms (grounds_of l.a) (grounds_of l.b)
