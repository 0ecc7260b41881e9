use Rattle.std.proofs.Common.{◌≡◌, ◌≤◌, ◌*◌, true, length, [], List, rules, arith}
use Rattle.std.proofs.lemmas.List.Elements.{All-same}
use Rattle.hp_syntax.specs.Networks.{candidates}
use Rattle.hp_syntax.specs.Terms.{Term}
use Rattle.hp_links.specs.Linked.{focused}
use Rattle.hp_tree.specs.Children.{IsCandidate}
use Rattle.hp_agenda.proofs.BegunLemmas.{listed_first}
use Rattle.hp_agenda.proofs.QueueLemmas.{listed_are, listed_more}
use Rattle.hp_agenda.proofs.queue.Queue.list_more.Goals as goal

pub returns-clause-left : goal.returns-clause-left
returns-clause-left c =
    let q = c.args.self.now in
    let more : q.more ≡ true = search rules in
    let over : length q.candidates.items ≤ q.at = search rules in
    let many : c.len-limit.result ≡ length q.candidates.items = search rules in
    let at = c.requires.at in
    listed_more c.args.site.now.net.now q (c.len-limit.result * 2) c.len-2.result _ more (omega (arith, over, at))
    (omega (arith, at, many)) c.in_ok-self.ensures.first (search rules)

pub returns-clause-candidates : goal.returns-clause-candidates
returns-clause-candidates c =
    let net = c.args.site.now.net.now in
    let terms : List Term = [] in
    let told = c.first_candidates.ensures in
    All-same (IsCandidate net) _ _ c.in_ok-self.ensures.first
    (listed_are net (c.len-limit.result * 2) (candidates (focused terms net).0 (focused terms net).1) told.tasks
    (told.places terms))

pub returns-clause-first : goal.returns-clause-first
returns-clause-first c = λ h.
    listed_first c.args.site.now.net.now (c.len-limit.result * 2) _ c.in_ok-self.ensures.first
    c.first_candidates.ensures.places
