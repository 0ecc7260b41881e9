use Rattle.std.proofs.Common.{ℕ, List, ◌∙◌, arith}
use Rattle.std.proofs.lemmas.List.Elements.{All-head}
use Rattle.hp_links.specs.Frames.{IsHeld, frame_in}
use Rattle.hp_links.specs.Walked.{left_to_walk}
use Rattle.hp_links.proofs.CandidateLemmas.{list_entered, list_several, task_leads}
use Rattle.hp_links.proofs.WalkLemmas.{row_within}
use Rattle.hp_links.proofs.links.Links.first_below.Goals as goal

pub enter-requires-clause-row : goal.enter-requires-clause-row
enter-requires-clause-row c =
    let f = frame_in c.args.self.now in
    let left : List ℕ = left_to_walk f.rows c.loop-order.rest.items in
    row_within f c.loop-order.number c.in-Row.start c.in-Row.many c.in-Row.order
    (All-head (IsHeld f) c.loop-order.number left c.loop-order.invariant.held) c.in-Row.ensures

pub enter-requires-clause-two : goal.enter-requires-clause-two
enter-requires-clause-two c =
    let f = frame_in c.args.self.now in
    let left : List ℕ = left_to_walk f.rows c.loop-order.rest.items in
    list_several f c.loop-order.number c.in-Row.start c.in-Row.many c.in-Row.order
    (All-head (IsHeld f) c.loop-order.number left c.loop-order.invariant.held) c.in-Row.ensures

pub loop-order-smaller : goal.loop-order-smaller
loop-order-smaller c =
    let f = frame_in c.args.self.now in
    (list_entered f c.loop-order.number c.in-Row.start c.in-Row.many c.in_ok-number.number c.in-Row.order
    (left_to_walk f.rows c.loop-order.rest.items) (left_to_walk f.rows c.enter.new.rest.items)
    c.loop-order.invariant.held c.in-Row.ensures c.in_ok-number.ensures.first).2

pub loop-order-preserved : goal.loop-order-preserved
loop-order-preserved c =
    let f = frame_in c.args.self.now in
    let before = c.loop-order.invariant in
    let less = before.less in
    let next = list_entered f c.loop-order.number c.in-Row.start c.in-Row.many c.in_ok-number.number c.in-Row.order
    (left_to_walk f.rows c.loop-order.rest.items) (left_to_walk f.rows c.enter.new.rest.items) before.held
    c.in-Row.ensures c.in_ok-number.ensures.first in
    let smaller = next.2 in
    record {
      held = next.0;
      within = c.in_ok-number.ensures.within;
      same = next.1 ∙ before.same;
      less = omega (arith, smaller, less);
    }

pub returns-clause-leads : goal.returns-clause-leads
returns-clause-leads c =
    let f = frame_in c.args.self.now in
    let before = c.loop-order.invariant in
    task_leads f c.loop-order.number c.part.result _ (left_to_walk f.rows c.loop-order.rest.items) before.held
    c.part.ensures c.in_default.not-Row before.same before.less
