use Rattle.std.proofs.Common.{ℕ, ◌<◌, List, Option, set, sym, subst}
use Rattle.hp_chains.specs.declared.link.Link.{Link}
use Rattle.hp_chains.specs.declared.link.Link.TheVariants as kinds
use Rattle.hp_chains.specs.declared.link.Sides.{Sides}
use Rattle.hp_chains.specs.Entries.{Reversed, StandsAt, IsTakenOut}
use Rattle.hp_chains.specs.Chained.{entries_of, joined_heads, AreRings}
use Rattle.hp_chains.proofs.NearestLemmas.{nearest_stops}
use Rattle.hp_chains.proofs.StandingLemmas.{stop_within}
use Rattle.hp_chains.proofs.TakingOutLemmas.{rings_taken_out, standing_before, standing_behind, standing_shown, taken_out}
use Rattle.hp_chains.proofs.ring.take_out.Goals as goal

pub join-requires-clause-key : goal.join-requires-clause-key
join-requires-clause-key c =
    c.requires.rings.keys c.in-Standing.key c.args.place
    (standing_shown c.args.links.now c.args.heads.now c.in-Standing.key c.in-Standing.sides c.args.place
    c.requires.rings c.in-Standing.is)

pub join-requires-clause-previous : goal.join-requires-clause-previous
join-requires-clause-previous c =
    let links : List Link = c.args.links.now in
    let p : Option ℕ = c.in-Standing.sides.previous in
    stop_within links c.in-Standing.key p
    (nearest_stops (Reversed ◌<◌) (λ i. i < c.args.place) (StandsAt c.in-Standing.key (entries_of links)) p
    (standing_before links c.args.heads.now c.in-Standing.key c.in-Standing.sides c.args.place c.requires.rings
    c.in-Standing.is))

pub join-requires-clause-next : goal.join-requires-clause-next
join-requires-clause-next c =
    let links : List Link = c.args.links.now in
    let n : Option ℕ = c.in-Standing.sides.next in
    stop_within links c.in-Standing.key n
    (nearest_stops ◌<◌ (λ i. c.args.place < i) (StandsAt c.in-Standing.key (entries_of links)) n
    (standing_behind links c.args.heads.now c.in-Standing.key c.in-Standing.sides c.args.place c.requires.rings
    c.in-Standing.is))

pub returns-in-Standing-clause-rings : goal.returns-in-Standing-clause-rings
returns-in-Standing-clause-rings c =
    let key = c.in-Standing.key in
    let sides = c.in-Standing.sides in
    let place = c.args.place in
    subst (λ (heads : List Sides). AreRings (set c.join.new.links place (kinds.Loose key sides)) heads)
    (sym c.join.ensures.heads)
    (subst (λ (links : List Link). AreRings (set links place (kinds.Loose key sides))
    (joined_heads key sides.previous sides.next c.args.heads.now)) (sym c.join.ensures.links)
    (rings_taken_out c.args.links.now c.args.heads.now key sides place c.requires.rings c.in-Standing.is))

pub returns-in-Standing-clause-place : goal.returns-in-Standing-clause-place
returns-in-Standing-clause-place c =
    let key = c.in-Standing.key in
    let sides = c.in-Standing.sides in
    let place = c.args.place in
    subst (λ (links : List Link). IsTakenOut place (entries_of c.args.links.now)
    (entries_of (set links place (kinds.Loose key sides)))) (sym c.join.ensures.links)
    (taken_out c.args.links.now c.args.heads.now key sides place c.requires.rings c.in-Standing.is)
