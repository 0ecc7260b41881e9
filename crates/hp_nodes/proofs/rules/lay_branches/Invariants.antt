use Rattle.std.proofs.Common.{◌≡◌, drop, map}
use Rattle.hp_syntax.specs.Views.{branch_of}
use Rattle.hp_nodes.specs.Compiled.{branch_trees}
use Rattle.hp_nodes.proofs.LayingLemmas.{laid_behind}
use Rattle.hp_nodes.proofs.rules.lay_branches.Given as goal

abbrev pub invariant-loop-branch : goal.invariant-loop-branch
invariant-loop-branch l =
    laid_behind l.nodes.items (branch_trees l.span (map branch_of (drop l.branch-index l.branches)))
    ≡ laid_behind l.fn.nodes.items (branch_trees l.span (map branch_of l.branches))
