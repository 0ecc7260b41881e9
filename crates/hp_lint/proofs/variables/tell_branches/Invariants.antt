use Rattle.std.proofs.Common.{◌≡◌, ◌++◌, drop, map}
use Rattle.std.specs.List.{flat_map}
use Rattle.hp_syntax.specs.Views.{branch_of}
use Rattle.hp_lint.specs.Variables.{branch_unbound}
use Rattle.hp_lint.specs.LintViews.{is_seen, remark_of}
use Rattle.hp_lint.proofs.variables.tell_branches.Given as goal

abbrev pub invariant-loop-branch : goal.invariant-loop-branch
invariant-loop-branch l =
    map remark_of l.report.list.items ++ flat_map (branch_unbound l.names (is_seen l.head)) (map branch_of (drop l.branch-index l.branches))
    ≡ map remark_of l.fn.report.list.items ++ flat_map (branch_unbound l.names (is_seen l.head)) (map branch_of l.branches)
