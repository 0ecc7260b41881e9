use Rattle.std.proofs.Common.{◌≡◌, ◌≤◌, ◌++◌, length, drop, ap, subst, ◌∙◌}
use Rattle.hp_code.specs.CodeViews.{rules_in}
use Rattle.hp_suspended.specs.SceneViews.{code_in}
use Rattle.hp_tree.specs.Children.{by_candidates}
use Rattle.hp_tree.specs.SearchNodes.{node_of}
use Rattle.hp_site.specs.Sites.{held_now}
use Rattle.hp_agenda.specs.Queues.{by_queue, unlisted}
use Rattle.hp_agenda.proofs.QueueLemmas.{none_unlisted, others_left}
use Rattle.hp_agenda.proofs.queue.Queue.leave_candidate.Goals as goal

pub returns-clause-left : goal.returns-clause-left
returns-clause-left c = λ nest.
    let site = c.args.site.now in
    let code = code_in site.scene in
    let n = node_of c.args.cells.now (held_now site) in
    let net = site.net.now in
    let m = c.list_more.new.self in
    let told = c.in_ok-list_more.ensures in
    let rest = unlisted m.more (length m.candidates.items) net in
    let rules = c.rules_at-self.result.now in
    let left = by_candidates (rules_in code) nest n net in
    subst (λ js. by_queue code nest n net rules (drop m.at js ++ rest) ≡ left (drop m.at js ++ rest) 0)
    c.deref.ensures.value
    (c.rules_at-self.ensures.left nest rest
    (λ l. none_unlisted net m (length m.candidates.items) told.more
    (subst (λ js. length js ≤ m.at) c.deref.ensures.value l)))
    ∙ ap (λ ks. left ks 0) (told.left ∙ others_left net c.args.self.now c.requires.some)
