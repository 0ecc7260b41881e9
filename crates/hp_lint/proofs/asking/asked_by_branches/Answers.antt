use Rattle.std.proofs.Common.{map, refl}
use Rattle.std.specs.List.{flat_map}
use Rattle.hp_syntax.specs.Views.{branch_of}
use Rattle.hp_syntax.proofs.ListLemmas.{made_on}
use Rattle.hp_lint.specs.Asking.{asked_by_branch}
use Rattle.hp_lint.proofs.asking.asked_by_branches.Goals as goal

pub loop-branch-preserved : goal.loop-branch-preserved
loop-branch-preserved c =
    made_on (λ ys. flat_map asked_by_branch (map branch_of ys)) (λ y. asked_by_branch (branch_of y)) c.args.branches.now c.loop-branch.branch-index c.branch-item.result
    _ _ _ (λ y ys. refl) c.loop-branch-test.true c.branch-item.is c.loop-branch.invariant c.in_ok-asked_before.ensures
