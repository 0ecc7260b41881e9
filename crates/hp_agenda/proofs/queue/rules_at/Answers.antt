use Rattle.std.proofs.Common.{◌≡◌, ◌≤◌, ◌+◌, ◌++◌, ℕ, List, [], length, drop, ap, ap₂, sym, subst, ◌∙◌, rules}
use Rattle.std.proofs.lemmas.List.{drop_all}
use Rattle.std.proofs.lemmas.List.Elements.{All-get_or}
use Rattle.hp_eval.specs.GoalViews.{term_at}
use Rattle.hp_suspended.specs.SceneViews.{code_in}
use Rattle.hp_eval.proofs.Loops.{left_more}
use Rattle.hp_tree.specs.Children.{IsCandidate, by_candidates, place_in}
use Rattle.hp_agenda.specs.Queues.{by_queue}
use Rattle.hp_tree.specs.SearchNodes.{node_of}
use Rattle.hp_site.specs.Sites.{held_now}
use Rattle.hp_laws.specs.RulesByName.{relevant, task_name}
use Rattle.hp_code.specs.CodeViews.{rules_in}
use Rattle.hp_agenda.proofs.QueueLemmas.{all_rules, rules_few, rules_there}
use Rattle.hp_agenda.proofs.queue.rules_at.Goals as goal

pub relevant_rules-requires : goal.relevant_rules-requires
relevant_rules-requires c = c.task-task.ensures.below (length c.args.cells.now) c.requires.site.node.network

pub returns-in-Some-clause-left : goal.returns-in-Some-clause-left
returns-in-Some-clause-left c =
    λ nest others premise.
    let site = c.args.site.now in
    let code = code_in site.scene in
    let terms = c.args.cells.now in
    let n = node_of terms (held_now site) in
    let net = site.net.now in
    let ids = c.args.candidates.now in
    let at = c.in-Some.ensures.lookup in
    let id = c.in-Some.id.now in
    let own : IsCandidate net id =
    subst (IsCandidate net) (sym at.1) (All-get_or (IsCandidate net) ids c.args.at id at.3.0 c.requires.candidates) in
    let part = c.task-task.ensures.task terms (place_in net id) own.stands in
    let rules = c.relevant_rules.result.now in
    let is = ap (λ ks. ks ++ others) (left_more ids c.args.at id at.3.0 at.1) in
    ap (by_queue code nest n net rules) is
    ∙ (all_rules code nest n net id (drop (c.args.at + 1) ids ++ others) (term_at terms c.task-task.result) part.0
    part.1 rules c.relevant_rules.ensures
    ∙ ap (λ ks. by_candidates (rules_in code) nest n net ks 0) (sym is))

pub returns-in-None-clause-left : goal.returns-in-None-clause-left
returns-in-None-clause-left c =
    λ nest others premise.
    let site = c.args.site.now in
    let code = code_in site.scene in
    let n = node_of c.args.cells.now (held_now site) in
    let net = site.net.now in
    let over : length c.args.candidates.now ≤ c.args.at = search rules in
    let nothing : drop c.args.at c.args.candidates.now ++ others ≡ [] =
    ap₂ (λ ks (js : List ℕ). ks ++ js) (drop_all c.args.at c.args.candidates.now over) (premise over) in
    ap (by_queue code nest n net []) nothing
    ∙ ap (λ ks. by_candidates (rules_in code) nest n net ks 0) (sym nothing)

pub returns-in-Some-clause-rules : goal.returns-in-Some-clause-rules
returns-in-Some-clause-rules c =
    let site = c.args.site.now in
    let code = code_in site.scene in
    let t = term_at c.args.cells.now c.task-task.result in
    rules_there code c.relevant_rules.result.now (relevant (task_name t) (rules_in code)) c.relevant_rules.ensures

pub returns-in-Some-clause-few : goal.returns-in-Some-clause-few
returns-in-Some-clause-few c =
    rules_few (code_in c.args.site.now.scene) c.relevant_rules.result.now
    (term_at c.args.cells.now c.task-task.result) c.relevant_rules.ensures
