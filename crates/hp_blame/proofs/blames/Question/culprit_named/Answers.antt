use Rattle.std.proofs.Common.{◌≡◌, ◌<◌, ◌≤◌, length, ap, subst, sym, ◌∙◌}
use Rattle.std.specs.Prelude.{option_map}
use Rattle.std.proofs.lemmas.List.{length-map}
use Rattle.hp_syntax.specs.Views.{rule_of}
use Rattle.hp_obstacles.proofs.NodeSteps.{in_same}
use Rattle.hp_blame.specs.Blames.{culprit_kept, culprit_of}
use Rattle.hp_blame.specs.Questions.{rules_asked, task_asked}
use Rattle.hp_blame.proofs.FirstLemmas.{none_of, some_below}
use Rattle.hp_blame.proofs.blames.Question.culprit_named.Goals as goal

pub returns-in-Some-clause-is : goal.returns-in-Some-clause-is
returns-in-Some-clause-is c = λ n at.
    let q = c.args.self.now in
    let held = c.loop-rule in
    let items = q.domain.now.rules.items in
    let below : held.rule < length (rules_asked q) =
    subst (λ k. held.rule < k) (sym (length-map items rule_of))
    (subst (λ xs. held.rule < length xs) c.as_slice-rule-end.ensures.value c.loop-rule-test.true) in
    sym (some_below
    (culprit_of (rules_asked q) q.fault c.args.walk.now.nest n.state (task_asked q) c.args.name.now)
    (culprit_kept c.in-Some.found) held.rule (length (rules_asked q)) below (held.invariant.none n at)
    (sym (in_same c.args.walk.now held.walk
    (λ nest s. option_map culprit_kept c.in_ok-found.field-0
    ≡ culprit_of (rules_asked q) q.fault nest s (task_asked q) c.args.name.now held.rule)
    held.invariant.same c.in_ok-found.ensures.is n at)
    ∙ ap (option_map culprit_kept) c.in-Some.is))

pub returns-clause-is : goal.returns-clause-is
returns-clause-is c = λ n at.
    let q = c.args.self.now in
    let held = c.loop-rule in
    let items = q.domain.now.rules.items in
    let all : length (rules_asked q) ≤ held.rule =
    subst (λ k. k ≤ held.rule) (sym (length-map items rule_of))
    (subst (λ xs. length xs ≤ held.rule) c.as_slice-rule-end.ensures.value c.loop-rule-test.false) in
    sym (none_of
    (culprit_of (rules_asked q) q.fault c.args.walk.now.nest n.state (task_asked q) c.args.name.now) held.rule
    (length (rules_asked q)) all (held.invariant.none n at))
