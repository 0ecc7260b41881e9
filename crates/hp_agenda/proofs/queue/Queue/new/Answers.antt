use Rattle.std.proofs.Common.{◌≡◌, ◌==◌, ◌++◌, length, drop, [], List, ap, subst, sym, rules, arith}
use Rattle.std.specs.List.{All}
use Rattle.std.proofs.lemmas.List.Elements.{All-same}
use Rattle.hp_syntax.specs.Networks.{candidates}
use Rattle.hp_syntax.specs.Terms.{Term}
use Rattle.hp_code.specs.CodeViews.{rules_in}
use Rattle.hp_links.specs.Linked.{focused}
use Rattle.hp_suspended.specs.SceneViews.{code_in}
use Rattle.hp_tree.specs.Children.{IsCandidate, by_candidates}
use Rattle.hp_tree.specs.SearchNodes.{node_of}
use Rattle.hp_site.specs.Sites.{held_now}
use Rattle.hp_agenda.specs.Queues.{by_queue, unlisted}
use Rattle.hp_agenda.proofs.BegunLemmas.{listed_first}
use Rattle.hp_agenda.proofs.QueueLemmas.{few_unlisted, listed_are, listed_children, some_listed}
use Rattle.hp_agenda.proofs.queue.Queue.new.Goals as goal

pub rules_at-rules-requires-clause-candidates : goal.rules_at-rules-requires-clause-candidates
rules_at-rules-requires-clause-candidates c =
    let net = c.args.site.now.net.now in
    let terms : List Term = [] in
    let told = c.first_candidates.ensures in
    subst (All (IsCandidate net)) (sym c.deref.ensures.value)
    (All-same (IsCandidate net) c.in_ok-candidates.candidates.items _ c.in_ok-candidates.ensures.first
    (listed_are net 4 (candidates (focused terms net).0 (focused terms net).1) told.tasks (told.places terms)))

pub returns-clause-left : goal.returns-clause-left
returns-clause-left c = λ nest.
    let site = c.args.site.now in
    let code = code_in site.scene in
    let terms = c.args.cells.now in
    let n = node_of terms (held_now site) in
    let net = site.net.now in
    let ids = c.in_ok-candidates.candidates.items in
    let many : c.len-more.result ≡ length ids = search rules in
    let rest = unlisted (c.len-more.result == 4) (length ids) net in
    let rules = c.rules_at-rules.result.now in
    let left = by_candidates (rules_in code) nest n net in
    listed_children net code nest n 4 c.len-more.result rules ids c.in_ok-candidates.ensures.first many
    (c.first_candidates.ensures.places terms)
    (subst (λ js. by_queue code nest n net rules (drop 0 js ++ rest) ≡ left (drop 0 js ++ rest) 0)
    c.deref.ensures.value
    (c.rules_at-rules.ensures.left nest rest
    (λ l. few_unlisted net 4 c.len-more.result (length ids) (omega (arith, many, ap length c.deref.ensures.value, l)))))

pub returns-clause-queue : goal.returns-clause-queue
returns-clause-queue c =
    let net = c.args.site.now.net.now in
    let terms : List Term = [] in
    let told = c.first_candidates.ensures in
    record {
      candidates =
          All-same (IsCandidate net) c.in_ok-candidates.candidates.items _ c.in_ok-candidates.ensures.first
          (listed_are net 4 (candidates (focused terms net).0 (focused terms net).1) told.tasks (told.places terms));
      rules = c.rules_at-rules.ensures.rules;
      few = c.rules_at-rules.ensures.few;
      deep = λ l. c.requires.deep;
      more =
          λ e.
          let many : c.len-more.result ≡ length c.in_ok-candidates.candidates.items = search rules in
          let some = some_listed c.len-more.result e in
          omega (arith, many, some);
    }

pub returns-clause-first : goal.returns-clause-first
returns-clause-first c =
    listed_first c.args.site.now.net.now 4 c.in_ok-candidates.candidates.items c.in_ok-candidates.ensures.first
    c.first_candidates.ensures.places
