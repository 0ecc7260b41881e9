use Rattle.std.proofs.Common.{◌≡◌, drop}
use Rattle.hp_syntax.specs.Views.{expressions_of}
use Rattle.hp_nodes.specs.Compiled.{expression_trees}
use Rattle.hp_nodes.proofs.LayingLemmas.{laid_behind}
use Rattle.hp_nodes.proofs.expressions.+expression.Given as goal

abbrev pub invariant-lay_expressions-loop-part : goal.invariant-lay_expressions-loop-part
invariant-lay_expressions-loop-part l =
    laid_behind l.nodes.items (expression_trees (expressions_of (drop l.part-index l.parts)))
    ≡ laid_behind l.fn.nodes.items (expression_trees (expressions_of l.parts))
