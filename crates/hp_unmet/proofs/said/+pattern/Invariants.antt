use Rattle.std.proofs.Common.{map, take}
use Rattle.hp_syntax.specs.GroundViews.{ground_of}
use Rattle.hp_syntax.specs.Views.{pattern_of}
use Rattle.hp_unmet.specs.Said.{AllSay}
use Rattle.hp_unmet.proofs.said.+pattern.Given as goal

abbrev pub invariant-to_patterns-loop-term : goal.invariant-to_patterns-loop-term
invariant-to_patterns-loop-term l =
    AllSay (map pattern_of l.patterns.items) (map ground_of (take l.term-index l.terms))
