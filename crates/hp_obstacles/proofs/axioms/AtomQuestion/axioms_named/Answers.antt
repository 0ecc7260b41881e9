use Rattle.std.proofs.Common.{◌≡◌, ◌∙◌, ◌++◌, ◌<◌, ◌≤◌, ap, length, get_or, map, subst}
use Rattle.std.proofs.lemmas.List.{take_all}
use Rattle.hp_syntax.specs.Views.{rule_of}
use Rattle.hp_obstacles.specs.Obstacles.{at_clauses, clauses_for, of_rules, unconcluded_of}
use Rattle.hp_obstacles.specs.Questions.{atom_wanted, rules_wanted, task_wanted}
use Rattle.hp_obstacles.proofs.NodeSteps.{in_same}
use Rattle.hp_obstacles.proofs.ObstacleSteps.{rule_added}
use Rattle.hp_obstacles.proofs.axioms.AtomQuestion.axioms_named.Goals as goal

pub loop-place-preserved : goal.loop-place-preserved
loop-place-preserved c =
    let q = c.args.self.now in
    let rules = rules_wanted q in
    let items = q.domain.now.rules.items in
    let walk = c.args.walk.now in
    let held = c.loop-place in
    let place = held.place in
    let rule = c.rule-item.result in
    let count = c.clauses_for-count.result in
    let old = map unconcluded_of held.axioms.items in
    let new = map unconcluded_of c.add_clauses.new.axioms.items in
    let same = c.as_slice-rule-items.ensures.value in
    record {
      so_far = λ n at.
          let from = at_clauses rules walk.nest n.state (task_wanted q) (atom_wanted q) in
          rule_added (λ k r. from k 0 (clauses_for c.args.name.now r)) items place rule old new
          (subst (λ xs. place < length xs) same c.loop-place-test.true)
          (subst (λ xs. rule ≡ get_or xs place rule) same c.rule-item.is) (held.invariant.so_far n at)
          (in_same walk held.walk
          (λ nest s. new ≡ old ++ at_clauses rules nest s (task_wanted q) (atom_wanted q) place 0 count)
          held.invariant.same c.in_ok-add_clauses.ensures.added n at
          ∙ ap (λ k. old ++ from place 0 k) c.clauses_for-count.ensures);
      same = c.in_ok-add_clauses.ensures.same ∙ held.invariant.same;
    }

pub returns-clause-are : goal.returns-clause-are
returns-clause-are c = λ n at.
    let q = c.args.self.now in
    let items = q.domain.now.rules.items in
    let held = c.loop-place in
    held.invariant.so_far n at
    ∙ ap
    (λ rs. of_rules (λ k r. at_clauses (rules_wanted q) c.args.walk.now.nest n.state (task_wanted q) (atom_wanted q) k 0
    (clauses_for c.args.name.now r)) 0 (map rule_of rs))
    (take_all held.place items
    (subst (λ xs. length xs ≤ held.place) c.as_slice-rule-items.ensures.value c.loop-place-test.false))
