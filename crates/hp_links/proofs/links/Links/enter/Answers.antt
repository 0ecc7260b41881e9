use Rattle.hp_links.proofs.CandidateLemmas.{enters_ordered, enters_unordered}
use Rattle.hp_links.proofs.links.Links.enter.Goals as goal

pub returns-in-Ordered-clause-first : goal.returns-in-Ordered-clause-first
returns-in-Ordered-clause-first c =
    enters_ordered c.args.self.now.rows.items c.args.start c.args.many c.index-first.result.now c.requires.row
    c.index-first.ensures c.args.order c.args.rest.now.items c.in-Ordered.is

pub returns-in_ok-push-in-Unordered-clause-first : goal.returns-in_ok-push-in-Unordered-clause-first
returns-in_ok-push-in-Unordered-clause-first c =
    enters_unordered c.args.self.now.rows.items c.args.start c.args.many c.index-first.result.now c.requires.row
    c.index-first.ensures c.args.order c.args.rest.now.items c.push.new.self.items c.in-Unordered.is
    c.in_ok-push-in-Unordered.ensures.items
