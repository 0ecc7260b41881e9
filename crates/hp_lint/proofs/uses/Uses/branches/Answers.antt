use Rattle.std.proofs.Common.{map, refl}
use Rattle.std.specs.List.{flat_map}
use Rattle.hp_syntax.specs.Views.{branch_of}
use Rattle.hp_syntax.proofs.ListLemmas.{made_on}
use Rattle.hp_lint.specs.Variables.{branch_uses}
use Rattle.hp_lint.proofs.Steps.{put_both}
use Rattle.hp_lint.proofs.uses.Uses.branches.Goals as goal

pub loop-branch-preserved : goal.loop-branch-preserved
loop-branch-preserved c =
    made_on (λ ys. flat_map branch_uses (map branch_of ys)) (λ y. branch_uses (branch_of y)) c.args.branches.now c.loop-branch.branch-index c.branch-item.result
    _ _ _ (λ y ys. refl) c.loop-branch-test.true c.branch-item.is c.loop-branch.invariant
    (put_both _ _ _ _ _ c.in_ok-precondition.ensures c.in_ok-tasks.ensures)
