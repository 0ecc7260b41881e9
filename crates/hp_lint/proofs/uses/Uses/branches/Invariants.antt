use Rattle.std.proofs.Common.{◌≡◌, ◌++◌, drop, map}
use Rattle.std.specs.List.{flat_map}
use Rattle.hp_syntax.specs.Views.{branch_of}
use Rattle.hp_lint.specs.Variables.{branch_uses}
use Rattle.hp_lint.proofs.uses.Uses.branches.Given as goal

abbrev pub invariant-loop-branch : goal.invariant-loop-branch
invariant-loop-branch l =
    l.self.list.items ++ flat_map branch_uses (map branch_of (drop l.branch-index l.branches)) ≡ l.fn.self.list.items ++ flat_map branch_uses (map branch_of l.branches)
