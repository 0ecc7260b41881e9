use Rattle.std.proofs.Common.{◌≡◌, drop}
use Rattle.hp_syntax.specs.Views.{patterns_of}
use Rattle.hp_blame.specs.Patterns.{patterns_at}
use Rattle.hp_blame.proofs.patterns.+pattern.Given as goal

abbrev pub invariant-patterns_at-loop-pattern : goal.invariant-patterns_at-loop-pattern
invariant-patterns_at-loop-pattern l =
    patterns_at l.span (patterns_of (drop l.pattern-index l.patterns)) ≡ patterns_at l.span (patterns_of l.patterns)
