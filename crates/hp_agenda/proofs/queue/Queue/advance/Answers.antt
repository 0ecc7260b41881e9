use Rattle.std.proofs.Common.{refl, ◌+◌, ◌∷◌, ◌++◌, length, drop, ap, ap₂, sym, ◌∙◌, subst, arith}
use Rattle.std.specs.List.{All}
use Rattle.std.proofs.lemmas.List.Elements.{All-get_or, All-head, All-tail}
use Rattle.std.proofs.lemmas.List.{nil_from_length}
use Rattle.hp_eval.specs.GoalViews.{term_at}
use Rattle.hp_suspended.specs.SceneViews.{code_in}
use Rattle.hp_tree.specs.Children.{IsCandidate, place_in}
use Rattle.hp_tree.specs.SearchNodes.{node_of}
use Rattle.hp_tree.proofs.SearchNodeLemmas.{node_stays, term_stays}
use Rattle.hp_site.specs.Sites.{held_now}
use Rattle.hp_agenda.specs.Queues.{IsRuleIn, by_queue, candidates_left, if_open, unlisted}
use Rattle.hp_agenda.proofs.BegunLemmas.{number_there, opened_last, some_weaker}
use Rattle.hp_agenda.proofs.QueueLemmas.{first_left, opened_children, rule_found, rule_next, rules_done}
use Rattle.hp_agenda.proofs.queue.Queue.advance.Goals as goal

pub open-requires-clause-task : goal.open-requires-clause-task
open-requires-clause-task c = c.task-task.ensures.below (length c.args.cells.now) c.requires.site.node.network

pub returns-in_ok-choice-in-Some-clause-left : goal.returns-in_ok-choice-in-Some-clause-left
returns-in_ok-choice-in-Some-clause-left c =
    let site = c.args.site.now in
    let code = code_in site.scene in
    let old = c.args.cells.now in
    let new = c.open.new.cells in
    let nest = c.args.nest in
    let h = held_now site in
    let n = node_of old h in
    let net = site.net.now in
    let q = c.args.self.now in
    let ids = q.candidates.items in
    let id = c.index-id.result.now in
    let js = drop (q.at + 1) ids ++ unlisted q.more (length ids) net in
    let is = first_left net q id c.requires.some c.index-id.ensures in
    let rule = c.in-Some.rule.now in
    let others = c.in-Some.others.now in
    let split = c.in-Some.ensures.cases.0 in
    let told = c.in_ok-choice-in-Some.ensures in
    let own : IsCandidate net id =
    subst (IsCandidate net) (sym c.index-id.ensures)
    (All-get_or (IsCandidate net) ids q.at id c.requires.some c.requires.queue.candidates) in
    let p = place_in net id in
    let part = c.task-task.ensures.task old p own.stands in
    let all : All (IsRuleIn code) (rule ∷ others) = subst (All (IsRuleIn code)) split c.requires.queue.rules in
    let found = rule_found code rule (All-head (IsRuleIn code) rule others all) in
    let stays = node_stays old new told.cells h c.requires.site.node in
    let first = if_open site.scene nest new h c.in_ok-choice-in-Some.choice in
    let gives =
    opened_children site.scene nest new h id c.task-task.result n c.in_ok-choice-in-Some.choice stays told.names
    ∙ told.children found.0 n p found.1 (λ i. n.state) in
    ap₂ (λ rs ks. by_queue code nest n net rs ks) split is
    ∙ (rule_next code nest n net id js (term_at old c.task-task.result) part.0 part.1 rule others found.0 first found.1
    gives
    ∙ ap₂ (λ m ks. first ++ by_queue code nest m net others ks) (sym stays) (sym is))

pub returns-in_ok-choice-in-Some-clause-last : goal.returns-in_ok-choice-in-Some-clause-last
returns-in_ok-choice-in-Some-clause-last c = λ first.
    let site = c.args.site.now in
    let code = code_in site.scene in
    let old = c.args.cells.now in
    let new = c.open.new.cells in
    let nest = c.args.nest in
    let h = held_now site in
    let n = node_of old h in
    let net = site.net.now in
    let q = c.args.self.now in
    let ids = q.candidates.items in
    let id = c.index-id.result.now in
    let task = c.task-task.result in
    let t = term_at old task in
    let rule = c.in-Some.rule.now in
    let told = c.in_ok-choice-in-Some.ensures in
    let own : IsCandidate net id =
    subst (IsCandidate net) (sym c.index-id.ensures)
    (All-get_or (IsCandidate net) ids q.at id c.requires.some c.requires.queue.candidates) in
    let p = place_in net id in
    let part = c.task-task.ensures.task old p own.stands in
    let all : All (IsRuleIn code) (rule ∷ c.in-Some.others.now) =
    subst (All (IsRuleIn code)) c.in-Some.ensures.cases.0 c.requires.queue.rules in
    let found = rule_found code rule (All-head (IsRuleIn code) rule c.in-Some.others.now all) in
    let choice = c.in_ok-choice-in-Some.choice in
    opened_last site.scene nest new h q.at id task rule n t found.0 choice
    (node_stays old new told.cells h c.requires.site.node)
    (term_stays old new told.cells task (c.task-task.ensures.below (length old) c.requires.site.node.network))
    (record {
      immediate = part.0;
      first = number_there net ids old q.at id first c.requires.some c.index-id.ensures;
      there = part.1;
    })
    found.1 told.names told.rule
    (some_weaker choice _ _ (λ x own. own found.0 n found.1 refl) told.branch)
    (told.children found.0 n p found.1 (λ i. n.state))

pub returns-in_ok-choice-in-Some-clause-queue : goal.returns-in_ok-choice-in-Some-clause-queue
returns-in_ok-choice-in-Some-clause-queue c =
    let code = code_in c.args.site.now.scene in
    let rule = c.in-Some.rule.now in
    let others = c.in-Some.others.now in
    let all : All (IsRuleIn code) (rule ∷ others) =
    subst (All (IsRuleIn code)) c.in-Some.ensures.cases.0 c.requires.queue.rules in
    record {
      candidates = c.requires.queue.candidates;
      rules = All-tail (IsRuleIn code) rule others all;
      few = omega (arith, c.in-Some.ensures.cases.1, c.requires.queue.few);
      deep = c.requires.queue.deep;
      more = c.requires.queue.more;
    }

pub returns-in_ok-leave_candidate-in-None-clause-left : goal.returns-in_ok-leave_candidate-in-None-clause-left
returns-in_ok-leave_candidate-in-None-clause-left c =
    let site = c.args.site.now in
    let code = code_in site.scene in
    let nest = c.args.nest in
    let n = node_of c.args.cells.now (held_now site) in
    let net = site.net.now in
    let q = c.args.self.now in
    ap (λ rs. by_queue code nest n net rs (candidates_left net q)) (nil_from_length q.rules.now c.in-None.ensures.cases)
    ∙ (rules_done code nest n net q c.requires.some ∙ sym (c.in_ok-leave_candidate-in-None.ensures.left nest))
