use Rattle.std.proofs.Common.{◌≡◌, ◌++◌, drop, map}
use Rattle.hp_syntax.specs.Views.{branch_of}
use Rattle.hp_syntax.specs.Written as written
use Rattle.hp_syntax.specs.Written.{rest_text}
use Rattle.hp_print.proofs.rules.push_branches.Given as goal

abbrev pub invariant-loop-branch : goal.invariant-loop-branch
invariant-loop-branch l =
    l.text.items ++ rest_text (written.branches l.vars (map branch_of (drop l.branch-index l.list)))
    ≡ l.fn.text.items ++ rest_text (written.branches l.vars (map branch_of l.list))
