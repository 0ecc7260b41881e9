use Rattle.std.proofs.Common.{◌≡◌, ◌+◌, ◌++◌, map, slice_get, ap, sym, ◌∙◌, arith}
use Rattle.hp_choice.specs.Asking.{next_tree}
use Rattle.hp_code.specs.Codes.{code_of}
use Rattle.hp_unmet.proofs.PrefixSteps.{past_more}
use Rattle.hp_obstacles.specs.Obstacles.{unconcluded, unconcluded_of}
use Rattle.hp_obstacles.specs.Questions.{atom_wanted, rules_wanted, task_wanted}
use Rattle.hp_obstacles.proofs.NodeSteps.{in_same}
use Rattle.hp_obstacles.proofs.ObstacleSteps.{clause_added, clauses_left}
use Rattle.hp_obstacles.proofs.axioms.AtomQuestion.add_clauses.Goals as goal

pub loop-more-preserved : goal.loop-more-preserved
loop-more-preserved c =
    let q = c.args.self.now in
    let rules = rules_wanted q in
    let walk = c.args.walk.now in
    let held = c.loop-more in
    let nodes = (code_of q.code.now).nodes in
    let found = c.in_ok-found.found in
    let less = c.if-branch-count.true in
    record {
      added = λ n at.
          clause_added rules walk.nest n.state (task_wanted q) (atom_wanted q) c.args.rule c.args.count
          held.axioms.items c.push.new.self.items found held.branch c.is_part-more.result _ less c.in_ok-push.ensures.items
          c.is_part-more.ensures
          (in_same walk held.walk
          (λ nest s. unconcluded_of found
          ≡ unconcluded rules nest s (task_wanted q) (atom_wanted q) c.args.rule held.branch)
          held.invariant.same c.in_ok-found.ensures.is n at)
          (ap
          (λ k. map unconcluded_of held.axioms.items ++ clauses_left rules walk.nest n.state (task_wanted q)
          (atom_wanted q) c.args.rule c.args.count k held.branch) (sym c.loop-more-test.true)
          ∙ held.invariant.added n at);
      within = omega (arith, less);
      same = c.in_ok-found.ensures.same ∙ held.invariant.same;
      at = c.branch_after-branch_node.ensures ∙ ap (λ i. next_tree (slice_get nodes i) i) held.invariant.at
          ∙ sym (past_more nodes (c.node_of-node.result + 1) held.branch 1);
    }
