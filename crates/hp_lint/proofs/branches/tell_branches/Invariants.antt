use Rattle.std.proofs.Common.{◌≡◌, ◌++◌, false, drop, map}
use Rattle.hp_syntax.specs.Views.{branch_of}
use Rattle.hp_lint.specs.Branches.{hidden_branches}
use Rattle.hp_lint.specs.LintViews.{remark_of}
use Rattle.hp_lint.proofs.branches.tell_branches.Given as goal

abbrev pub invariant-loop-branch : goal.invariant-loop-branch
invariant-loop-branch l =
    map remark_of l.report.list.items ++ hidden_branches l.hidden (map branch_of (drop l.branch-index l.branches))
    ≡ map remark_of l.fn.report.list.items ++ hidden_branches false (map branch_of l.branches)
