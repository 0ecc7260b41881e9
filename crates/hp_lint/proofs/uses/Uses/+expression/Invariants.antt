use Rattle.std.proofs.Common.{◌≡◌, ◌++◌, drop}
use Rattle.hp_syntax.specs.Views.{expressions_of}
use Rattle.hp_lint.specs.Variables.{expressions_uses}
use Rattle.hp_lint.proofs.uses.Uses.+expression.Given as goal

abbrev pub invariant-expressions-loop-part : goal.invariant-expressions-loop-part
invariant-expressions-loop-part l =
    l.self.list.items ++ expressions_uses (expressions_of (drop l.part-index l.parts)) ≡ l.initial.self.list.items ++ expressions_uses (expressions_of l.parts)
