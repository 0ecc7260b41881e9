use Rattle.std.proofs.Common.{◌+◌, ◌++◌, ap₂, sym, ◌∙◌, subst, arith}
use Rattle.std.proofs.lemmas.Grind.{common_steps}
use Rattle.std.proofs.lemmas.List.Elements.{All-get_or}
use Rattle.std.proofs.lemmas.Option.{slice_get_within}
use Rattle.hp_syntax.specs.Networks.{part_at}
use Rattle.hp_laws.specs.RulesByName.{relevant_to}
use Rattle.hp_laws.proofs.RuleNameLemmas.{relevant_few}
use Rattle.hp_answers.proofs.RuleIndexLemmas.{rule_at_place, no_place}
use Rattle.hp_eval.proofs.GrowthLemmas.{grows_self}
use Rattle.hp_tree.specs.Children.{place_in, IsCandidate}
use Rattle.hp_tree.proofs.ChildLemmas.{candidate_next, candidate_done}
use Rattle.hp_plain.specs.Agendas.{rules_of}
use Rattle.hp_plain.specs.SearchNodes.{node_in}
use Rattle.hp_plain.proofs.AgendaSteps.{queue_stays}
use Rattle.hp_plain.proofs.agenda.CandidateQueue.advance.Goals as goal

pub opened-requires-clause-candidate : goal.opened-requires-clause-candidate
opened-requires-clause-candidate c =
    let q = c.args.self.now in
    let net = c.args.node.now.net.now in
    subst (IsCandidate net) (sym c.index-id.ensures)
    (All-get_or (IsCandidate net) q.candidates.items q.at c.index-id.result.now c.requires.some
    c.requires.queue.candidates)

pub returns-in-None-clause-left : goal.returns-in-None-clause-left
returns-in-None-clause-left c =
    let q = c.args.self.now in
    let context = c.args.context.now in
    let n = node_in c.args.cells.now c.args.node.now in
    let net = c.args.node.now.net.now in
    let id = c.index-id.result.now in
    let own = relevant_to (part_at n.network (place_in net id)) (rules_of context) in
    candidate_done (rules_of context) context.nest n net q.candidates.items q.at id c.requires.some c.index-id.ensures
    q.tried (no_place (rules_of context) own q.tried c.relevant_rule.result c.relevant_rule.ensures c.in-None.is)

pub returns-in_ok-choice-in-Some-clause-left : goal.returns-in_ok-choice-in-Some-clause-left
returns-in_ok-choice-in-Some-clause-left c =
    let old = c.args.cells.now in
    let new = c.opened.new.cells in
    let q = c.args.self.now in
    let context = c.args.context.now in
    let rules = rules_of context in
    let node = c.args.node.now in
    let n = node_in old node in
    let net = node.net.now in
    let id = c.index-id.result.now in
    let own = relevant_to (part_at n.network (place_in net id)) rules in
    let (r, e, there) =
    rule_at_place rules own q.tried c.relevant_rule.result c.relevant_rule.ensures c.in-Some.rule c.in-Some.is in
    let later = record q { tried = q.tried + 1 } in
    candidate_next rules context.nest n net q.candidates.items q.at id c.requires.some c.index-id.ensures q.tried
    c.in-Some.rule r e there
    ∙ ap₂ (λ xs ys. xs ++ ys) (sym c.in_ok-choice-in-Some.ensures.children)
    (sym (queue_stays old new c.in_ok-choice-in-Some.ensures.cells rules context.nest node c.requires.node later))

pub returns-in_ok-choice-in-Some-clause-queue : goal.returns-in_ok-choice-in-Some-clause-queue
returns-in_ok-choice-in-Some-clause-queue c =
    let q = c.args.self.now in
    let rules = rules_of c.args.context.now in
    let n = node_in c.args.cells.now c.args.node.now in
    let part = part_at n.network (place_in c.args.node.now.net.now c.index-id.result.now) in
    let own = relevant_to part rules in
    let (r, e, there) =
    rule_at_place rules own q.tried c.relevant_rule.result c.relevant_rule.ensures c.in-Some.rule c.in-Some.is in
    record {
      candidates = c.requires.queue.candidates;
      tried = omega (arith, slice_get_within own q.tried r e, relevant_few part rules);
      deep = c.requires.queue.deep;
    }

pub relevant_rule-requires-clause-candidate : goal.relevant_rule-requires-clause-candidate
relevant_rule-requires-clause-candidate c =
    let q = c.args.self.now in
    let net = c.args.node.now.net.now in
    subst (IsCandidate net) (sym c.index-id.ensures)
    (All-get_or (IsCandidate net) q.candidates.items q.at c.index-id.result.now c.requires.some
    c.requires.queue.candidates)

pub returns-in-None-clause-cells : goal.returns-in-None-clause-cells
returns-in-None-clause-cells c = grows_self c.args.cells.now

pub returns-in_ok-choice-in-Some-clause-less : goal.returns-in_ok-choice-in-Some-clause-less
returns-in_ok-choice-in-Some-clause-less c = grind (arith, common_steps)

pub returns-in-None-clause-less : goal.returns-in-None-clause-less
returns-in-None-clause-less c = grind (arith, common_steps)

pub returns-in-None-clause-queue : goal.returns-in-None-clause-queue
returns-in-None-clause-queue c = record {
  candidates = c.requires.queue.candidates;
  tried = omega arith;
  deep = λ l. c.requires.queue.deep c.requires.some;
}
