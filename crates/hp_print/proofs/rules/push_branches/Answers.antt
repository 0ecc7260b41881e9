use Rattle.std.proofs.Common.{codes, map}
use Rattle.hp_syntax.specs.Views.{branch_of}
use Rattle.hp_syntax.specs.Written as written
use Rattle.hp_syntax.specs.Written.{rest_text}
use Rattle.hp_syntax.proofs.ListLemmas.{made_on}
use Rattle.hp_print.proofs.WrittenLists.{all_and_more}
use Rattle.hp_print.proofs.WrittenTexts.{rest_of_branches, rest_of_no_branches}
use Rattle.hp_print.proofs.rules.push_branches.Goals as goal

pub loop-branch-preserved : goal.loop-branch-preserved
loop-branch-preserved c =
    let vars = c.args.vars.now in
    made_on (λ bs. rest_text (written.branches vars (map branch_of bs)))
    (λ b. rest_text (written.branch vars (branch_of b))) c.args.list.now c.loop-branch.branch-index
    c.branch-item.result c.loop-branch.text.items _ _
    (λ b bs. rest_of_branches vars (branch_of b) (map branch_of bs)) c.loop-branch-test.true c.branch-item.is
    c.loop-branch.invariant c.in_ok-push_branch.ensures

pub returns : goal.returns
returns c =
    all_and_more c.extend_from_slice.result (λ bs. rest_text (written.branches c.args.vars.now (map branch_of bs)))
    c.args.list.now c.loop-branch.branch-index c.loop-branch.text.items _ _ c.loop-branch-test.false
    c.loop-branch.invariant (codes ")") (rest_of_no_branches c.args.vars.now) c.extend_from_slice.ensures.items
