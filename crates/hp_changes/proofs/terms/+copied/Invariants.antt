use Rattle.std.proofs.Common.{◌≡◌, map, take}
use Rattle.hp_syntax.specs.GroundViews.{ground_of}
use Rattle.hp_changes.proofs.terms.+copied.Given as goal

abbrev pub invariant-copies-loop-term : goal.invariant-copies-loop-term
invariant-copies-loop-term l = map ground_of l.all.items ≡ map ground_of (take l.term-index l.terms)
