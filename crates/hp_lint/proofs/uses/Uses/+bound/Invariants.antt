use Rattle.std.proofs.Common.{◌≡◌, ◌++◌, drop}
use Rattle.hp_syntax.specs.Views.{expressions_of}
use Rattle.hp_lint.specs.Variables.{bound_in_each}
use Rattle.hp_lint.proofs.uses.Uses.+bound.Given as goal

abbrev pub invariant-bound_in_each-loop-part : goal.invariant-bound_in_each-loop-part
invariant-bound_in_each-loop-part l =
    l.self.list.items ++ bound_in_each (expressions_of (drop l.part-index l.parts)) ≡ l.initial.self.list.items ++ bound_in_each (expressions_of l.parts)
