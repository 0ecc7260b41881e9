use Rattle.std.proofs.Common.{◌+◌, ◌||◌, ◌++◌, drop, map, ap, ap₂, sym, ◌∙◌}
use Rattle.hp_syntax.specs.Views.{branch_of}
use Rattle.hp_lint.specs.Branches.{precondition_span, hidden_branches, if_hidden}
use Rattle.hp_lint.specs.LintViews.{remark_of}
use Rattle.hp_lint.proofs.BranchLemmas.{made_on_from}
use Rattle.hp_lint.proofs.branches.tell_branches.Goals as goal

pub loop-branch-preserved : goal.loop-branch-preserved
loop-branch-preserved c =
    let x = c.branch-item.result in
    let hidden = c.loop-branch.hidden in
    let behind = map branch_of (drop (c.loop-branch.branch-index + 1) c.args.branches.now) in
    let here = if_hidden hidden (precondition_span (branch_of x).pre) x.name in
    made_on_from c.args.branches.now c.loop-branch.branch-index x c.loop-branch-test.true c.branch-item.is
    (λ b ys. hidden_branches b (map branch_of ys)) (λ b. here) (λ b. b || c.always_before-hidden.result) hidden _ _ _
    (ap (λ b. here ++ hidden_branches (hidden || b) behind) (sym c.always_before-hidden.ensures)) c.loop-branch.invariant
    (c.in_ok-tell_if.ensures
    ∙ ap₂ (λ s n. map remark_of c.loop-branch.report.list.items ++ if_hidden hidden s n) c.precondition_span.ensures
    c.as_ref.ensures.value)
