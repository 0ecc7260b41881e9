use Rattle.std.proofs.Common.{ap, subst, sym}
use Rattle.std.specs.List.{All}
use Rattle.std.proofs.lemmas.Result.{on_ok_weaker}
use Rattle.hp_world.specs.Histories.{History}
use Rattle.hp_links.specs.Linked.{Linked, PartBelow}
use Rattle.hp_links.specs.Placed.{IsPlaced, Finishes}
use Rattle.hp_links.specs.Undoing.{stage_of}
use Rattle.hp_links.proofs.PlacedLemmas.{placed_from_sound}
use Rattle.hp_net.proofs.NetSteps.{finishes}
use Rattle.hp_net.proofs.net.Net.finish.Goals as goal

pub returns-clause-net : goal.returns-clause-net
returns-clause-net c =
    let e = ap (λ (h : History Linked). h.now) c.self.view_is in
    let placed = subst IsPlaced e (placed_from_sound c.self.inside.store c.self.invariant) in
    let new = stage_of c.finish.new.self in
    on_ok_weaker c.finish.result
    (λ f terms p h.
    finishes c.args.self.now.now new c.args.id terms placed p h (subst (λ s. Finishes s new c.args.id) e f))
    c.finish.ensures.net

pub returns-clause-below : goal.returns-clause-below
returns-clause-below c = λ k h.
    c.finish.ensures.below k
    (subst (λ (h : History Linked). All (PartBelow k) h.now.parts) (sym c.self.view_is) h)
