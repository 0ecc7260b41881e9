use Rattle.std.proofs.Common.{arith}
use Rattle.hp_links.proofs.CandidateLemmas.{next_last, next_more, within_more}
use Rattle.hp_links.proofs.links.Links.next_part.Goals as goal

pub returns-then-stretch-gt1-clause-next : goal.returns-then-stretch-gt1-clause-next
returns-then-stretch-gt1-clause-next c =
    next_more c.args.self.now.rows.items c.args.rest.now.items c.pop.new.self.items c.in_ok-stretch.stretch
    c.index-part.result.now c.in_ok-stretch.ensures.items c.requires.within c.index-part.ensures
    c.push_reserved.new.self.items c.push_reserved.ensures.items

pub returns-then-stretch-gt1-clause-within : goal.returns-then-stretch-gt1-clause-within
returns-then-stretch-gt1-clause-within c =
    within_more c.args.self.now.rows.items c.args.rest.now.items c.pop.new.self.items c.in_ok-stretch.stretch
    c.index-part.result.now c.in_ok-stretch.ensures.items c.requires.within c.index-part.ensures
    c.push_reserved.new.self.items c.push_reserved.ensures.items (omega arith)

pub returns-else-stretch-gt1-clause-next : goal.returns-else-stretch-gt1-clause-next
returns-else-stretch-gt1-clause-next c =
    next_last c.args.self.now.rows.items c.args.rest.now.items c.pop.new.self.items c.in_ok-stretch.stretch
    c.index-part.result.now c.in_ok-stretch.ensures.items c.requires.within c.index-part.ensures (omega arith)
