use Rattle.std.proofs.Common.{map, refl}
use Rattle.hp_syntax.specs.Views.{branch_of}
use Rattle.hp_nodes.specs.Compiled.{branch_tree, branch_trees}
use Rattle.hp_nodes.proofs.LayingSteps.{laid_one_more, all_parts_laid}
use Rattle.hp_nodes.proofs.rules.lay_branches.Goals as goal

pub loop-branch-preserved : goal.loop-branch-preserved
loop-branch-preserved c =
    let span = c.args.span in
    laid_one_more (λ bs. branch_trees span (map branch_of bs)) (λ b. branch_tree span (branch_of b))
    c.args.branches.now c.loop-branch.branch-index c.branch-item.result c.loop-branch.nodes.items
    c.lay_branch.new.nodes.items (λ b bs. refl) c.loop-branch-test.true c.branch-item.is c.in_ok-lay_branch.ensures _
    c.loop-branch.invariant

pub returns : goal.returns
returns c =
    all_parts_laid (λ bs. branch_trees c.args.span (map branch_of bs)) c.args.branches.now c.loop-branch.branch-index
    c.loop-branch-test.false refl c.loop-branch.nodes.items _ c.loop-branch.invariant
