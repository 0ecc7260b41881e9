use Rattle.std.proofs.Common.{◌≡◌, ◌++◌, drop}
use Rattle.hp_syntax.specs.Views.{expressions_of}
use Rattle.hp_lint.specs.Asking.{asked_in_each}
use Rattle.hp_lint.specs.LintViews.{lent_atoms}
use Rattle.hp_lint.proofs.asking.+asked.Given as goal

abbrev pub invariant-asked_in_each-loop-part : goal.invariant-asked_in_each-loop-part
invariant-asked_in_each-loop-part l =
    lent_atoms l.list.items ++ asked_in_each (expressions_of (drop l.part-index l.parts)) ≡ lent_atoms l.initial.list.items ++ asked_in_each (expressions_of l.parts)
