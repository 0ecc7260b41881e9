use Rattle.std.proofs.Common.{◌≡◌, take, map}
use Rattle.hp_syntax.specs.Views.{pattern_of}
use Rattle.hp_syntax.proofs.+copy_pattern.Given as goal

abbrev pub invariant-copies::copy_patterns-loop-pattern : goal.invariant-copies::copy_patterns-loop-pattern
invariant-copies::copy_patterns-loop-pattern l =
    map pattern_of l.copies.items ≡ map pattern_of (take l.pattern-index l.patterns)
