use Rattle.std.proofs.Common.{◌≡◌, drop}
use Rattle.hp_syntax.specs.Views.{patterns_of}
use Rattle.hp_blame.specs.Patterns.{any_mentions}
use Rattle.hp_blame.proofs.patterns.+mentions.Given as goal

abbrev pub invariant-any_mentions-loop-pattern : goal.invariant-any_mentions-loop-pattern
invariant-any_mentions-loop-pattern l =
    any_mentions l.variable (patterns_of (drop l.pattern-index l.patterns)) ≡ any_mentions l.variable (patterns_of l.patterns)
