use Rattle.std.proofs.Common.{◌≡◌, ◌++◌, drop, map}
use Rattle.std.specs.List.{flat_map}
use Rattle.hp_syntax.specs.Notes.{branch_atoms}
use Rattle.hp_syntax.specs.Views.{branch_of}
use Rattle.hp_lint.specs.LintViews.{lent_atoms}
use Rattle.hp_lint.proofs.serving.branches_tasks.Given as goal

abbrev pub invariant-loop-branch : goal.invariant-loop-branch
invariant-loop-branch l =
    lent_atoms l.list.items ++ flat_map branch_atoms (map branch_of (drop l.branch-index l.branches)) ≡ lent_atoms l.fn.list.items ++ flat_map branch_atoms (map branch_of l.branches)
