use Rattle.std.proofs.Common.{◌≡◌, ◌+◌, slice_get, ap, sym, ◌∙◌}
use Rattle.hp_choice.specs.Asking.{next_tree}
use Rattle.hp_code.specs.Codes.{code_of}
use Rattle.hp_unmet.proofs.PrefixSteps.{past_more}
use Rattle.hp_obstacles.specs.Obstacles.{obstacle, obstacle_of}
use Rattle.hp_obstacles.specs.Questions.{rules_asked, task_asked}
use Rattle.hp_obstacles.proofs.NodeSteps.{in_same}
use Rattle.hp_obstacles.proofs.ObstacleSteps.{branch_added}
use Rattle.hp_obstacles.proofs.obstacles.Question.add_branches.Goals as goal

pub obstacle_at-requires-clause-spot : goal.obstacle_at-requires-clause-spot
obstacle_at-requires-clause-spot c =
    record { serves = c.node_of-node.ensures; at = c.loop-branch.invariant.at }

pub loop-branch-preserved : goal.loop-branch-preserved
loop-branch-preserved c =
    let rules = rules_asked c.args.self.now in
    let task = task_asked c.args.self.now in
    let walk = c.args.walk.now in
    let held = c.loop-branch in
    let nodes = (code_of c.args.self.now.code.now).nodes in
    let found = c.in_ok-found.found in
    record {
      added = λ n at.
          branch_added rules walk.nest n.state task c.args.rule c.args.obstacles.now.items held.obstacles.items
          c.push.new.self.items found held.branch c.in_ok-push.ensures.items (held.invariant.added n at)
          (in_same walk held.walk (λ nest s. obstacle_of found ≡ obstacle rules nest s task c.args.rule held.branch)
          held.invariant.same c.in_ok-found.ensures.is n at);
      same = c.in_ok-found.ensures.same ∙ held.invariant.same;
      at = c.branch_after-branch_node.ensures ∙ ap (λ i. next_tree (slice_get nodes i) i) held.invariant.at
          ∙ sym (past_more nodes (c.node_of-node.result + 1) held.branch 1);
    }
