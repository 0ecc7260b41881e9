use Rattle.std.proofs.Common.{◌≡◌, map, take}
use Rattle.hp_syntax.specs.GroundViews.{ground_of}
use Rattle.hp_changes.specs.Changes.{apart}
use Rattle.hp_changes.proofs.terms.apart.Given as goal

abbrev pub invariant-loop-term : goal.invariant-loop-term
invariant-loop-term l =
    map ground_of l.kept.items ≡ apart (map ground_of (take l.term-index l.terms)) (map ground_of l.others)
