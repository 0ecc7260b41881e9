use Rattle.std.proofs.Common.{◌≡◌, ◌∙◌, ◌++◌, ◌<◌, ◌≤◌, ap, length, get_or, map, subst}
use Rattle.std.proofs.lemmas.List.{take_all}
use Rattle.hp_syntax.specs.Views.{rule_of}
use Rattle.hp_obstacles.specs.Obstacles.{at_branches, at_rules, branches_for, obstacle_of}
use Rattle.hp_obstacles.specs.Questions.{rules_asked, task_asked}
use Rattle.hp_obstacles.proofs.NodeSteps.{in_same}
use Rattle.hp_obstacles.proofs.ObstacleSteps.{rule_added}
use Rattle.hp_obstacles.proofs.obstacles.Question.obstacles_named.Goals as goal

pub loop-place-preserved : goal.loop-place-preserved
loop-place-preserved c =
    let rules = rules_asked c.args.self.now in
    let items = c.args.self.now.domain.now.rules.items in
    let task = task_asked c.args.self.now in
    let walk = c.args.walk.now in
    let held = c.loop-place in
    let place = held.place in
    let rule = c.rule-item.result in
    let count = c.branches_for-count.result in
    let old = map obstacle_of held.obstacles.items in
    let new = map obstacle_of c.add_branches.new.obstacles.items in
    let same = c.as_slice-rule-items.ensures.value in
    record {
      so_far = λ n at.
          rule_added (λ k r. at_branches rules walk.nest n.state task k 0 (branches_for c.args.name.now r)) items place
          rule old new
          (subst (λ xs. place < length xs) same c.loop-place-test.true)
          (subst (λ xs. rule ≡ get_or xs place rule) same c.rule-item.is) (held.invariant.so_far n at)
          (in_same walk held.walk (λ nest s. new ≡ old ++ at_branches rules nest s task place 0 count)
          held.invariant.same c.in_ok-add_branches.ensures.added n at
          ∙ ap (λ k. old ++ at_branches rules walk.nest n.state task place 0 k) c.branches_for-count.ensures);
      same = c.in_ok-add_branches.ensures.same ∙ held.invariant.same;
    }

pub returns-clause-are : goal.returns-clause-are
returns-clause-are c = λ n at.
    let rules = rules_asked c.args.self.now in
    let items = c.args.self.now.domain.now.rules.items in
    let held = c.loop-place in
    held.invariant.so_far n at
    ∙ ap
    (λ rs. at_rules rules c.args.walk.now.nest n.state (task_asked c.args.self.now) c.args.name.now 0 (map rule_of rs))
    (take_all held.place items
    (subst (λ xs. length xs ≤ held.place) c.as_slice-rule-items.ensures.value c.loop-place-test.false))
