use Rattle.std.proofs.Common.{take}
use Rattle.hp_lint.specs.LintViews.{Counted}
use Rattle.hp_lint.proofs.variables.Counts.of.Given as goal

abbrev pub invariant-loop-found : goal.invariant-loop-found
invariant-loop-found l = Counted (take l.found-index l.uses) l.counts
