use Rattle.std.proofs.Common.{◌≡◌, ◌+◌, ap, sym, ◌∙◌}
use Rattle.std.specs.Prelude.{option_map, slice_get}
use Rattle.hp_choice.specs.Asking.{next_tree}
use Rattle.hp_code.specs.Codes.{code_of}
use Rattle.hp_obstacles.proofs.NodeSteps.{in_same}
use Rattle.hp_unmet.proofs.PrefixSteps.{past_more}
use Rattle.hp_blame.specs.Blames.{culprit_at, culprit_kept}
use Rattle.hp_blame.specs.Questions.{rules_asked, task_asked}
use Rattle.hp_blame.proofs.FirstLemmas.{none_below, some_below}
use Rattle.hp_blame.proofs.blames.Question.culprit_below.Goals as goal

pub returns-in-Some-clause-is : goal.returns-in-Some-clause-is
returns-in-Some-clause-is c = λ n at.
    let q = c.args.self.now in
    let held = c.loop-branch in
    let here = culprit_at (rules_asked q) q.fault c.args.walk.now.nest n.state (task_asked q) c.args.rule in
    sym (some_below here (culprit_kept c.in-Some.found) held.branch c.args.count c.loop-branch-test.true
    (held.invariant.none n at)
    (sym (in_same c.args.walk.now held.walk
    (λ nest s. option_map culprit_kept c.in_ok-found.field-0
    ≡ culprit_at (rules_asked q) q.fault nest s (task_asked q) c.args.rule held.branch)
    held.invariant.same c.in_ok-found.ensures.is n at)
    ∙ ap (option_map culprit_kept) c.in-Some.is))

pub loop-branch-preserved : goal.loop-branch-preserved
loop-branch-preserved c =
    let q = c.args.self.now in
    let held = c.loop-branch in
    let nodes = (code_of q.code.now).nodes in
    record {
      none = λ n at.
          none_below
          (culprit_at (rules_asked q) q.fault c.args.walk.now.nest n.state (task_asked q) c.args.rule) held.branch
          (held.invariant.none n at)
          (sym (in_same c.args.walk.now held.walk
          (λ nest s. option_map culprit_kept c.in_ok-found.field-0
          ≡ culprit_at (rules_asked q) q.fault nest s (task_asked q) c.args.rule held.branch)
          held.invariant.same c.in_ok-found.ensures.is n at)
          ∙ ap (option_map culprit_kept) c.in-None.is);
      same = c.in_ok-found.ensures.same ∙ held.invariant.same;
      at = c.branch_after-branch_node.ensures ∙ ap (λ i. next_tree (slice_get nodes i) i) held.invariant.at
          ∙ sym (past_more nodes (c.node_of-node.result + 1) held.branch 1);
    }
