use Rattle.std.proofs.Common.{◌≡◌, map, drop}
use Rattle.hp_syntax.specs.Changes.{added}
use Rattle.hp_syntax.specs.GroundViews.{ground_of}
use Rattle.hp_changes.specs.Changes.{once}
use Rattle.hp_changes.proofs.terms.once.Given as goal

abbrev pub invariant-loop-term : goal.invariant-loop-term
invariant-loop-term l =
    added (map ground_of l.kept.items) (map ground_of (drop l.term-index l.terms)) ≡ once (map ground_of l.terms)
