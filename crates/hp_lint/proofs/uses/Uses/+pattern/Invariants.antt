use Rattle.std.proofs.Common.{◌≡◌, ◌++◌, drop}
use Rattle.hp_syntax.specs.Views.{patterns_of}
use Rattle.hp_lint.specs.Variables.{patterns_uses}
use Rattle.hp_lint.proofs.uses.Uses.+pattern.Given as goal

abbrev pub invariant-patterns-loop-pat : goal.invariant-patterns-loop-pat
invariant-patterns-loop-pat l =
    l.self.list.items ++ patterns_uses l.in_calls (patterns_of (drop l.pat-index l.pats)) ≡ l.initial.self.list.items ++ patterns_uses l.in_calls (patterns_of l.pats)
