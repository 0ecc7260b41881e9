use Rattle.std.proofs.Common.{◌≡◌}
use Rattle.hp_mismatch.specs.ValueViews.{bindings_of}
use Rattle.hp_mismatch.proofs.MatchSteps.{from_on}
use Rattle.hp_mismatch.proofs.matching.+matching.Given as goal

abbrev pub invariant-match_parts-loop-place : goal.invariant-match_parts-loop-place
invariant-match_parts-loop-place l =
    from_on l.parts l.tail l.terms l.place (bindings_of l.values.items)
    ≡ from_on l.parts l.tail l.terms 0 (bindings_of l.fn.values.items)
