use Rattle.std.proofs.Common.{◌≡◌, ◌∙◌, ℕ, List, Some, length, get_or, set, sym, ap, subst, ◌<◌, arith}
use Rattle.std.proofs.lemmas.List.{length-set}
use Rattle.std.specs.Option.{IfSome}
use Rattle.hp_chains.specs.declared.link.Link.{Link}
use Rattle.hp_chains.specs.declared.link.Link.TheVariants as kinds
use Rattle.hp_chains.specs.declared.link.Sides.{Sides}
use Rattle.hp_chains.specs.Entries.{Entry, FitsBack, Loose, MayReturn}
use Rattle.hp_chains.specs.Chained.{entries_of, joined_links, joined_heads, AreRings}
use Rattle.hp_chains.proofs.PuttingBackLemmas.{loose_shown, next_within, place_within, previous_within, put_back_entries, rings_put_back}
use Rattle.hp_chains.proofs.ring.put_back.Goals as goal

-- a loose link that fits back has a key and its neighbours
fits_loose : (links : List Link) (heads : List Sides) (key : ℕ) (sides : Sides) (place : ℕ)
    → get_or links place kinds.Bare ≡ kinds.Loose key sides
    → FitsBack (length heads) (entries_of links) place
    → MayReturn (length heads) (entries_of links) place (Loose key sides.previous sides.next)
fits_loose links heads key sides place at fits =
    subst (λ (e : Entry). MayReturn (length heads) (entries_of links) place e)
    (loose_shown links key sides place at) fits

-- a loose link that fits back has a key, and stands within the list, as its neighbours do
bounds_loose : (links : List Link) (heads : List Sides) (key : ℕ) (sides : Sides) (place : ℕ) → AreRings links heads
    → get_or links place kinds.Bare ≡ kinds.Loose key sides
    → FitsBack (length heads) (entries_of links) place
    → (key < length heads) × (place < length links) × IfSome sides.previous (λ i. i < length links)
    × IfSome sides.next (λ i. i < length links)
bounds_loose links heads key sides place h at fits =
    let f = fits_loose links heads key sides place at fits in (
      f.0,
      place_within links heads key sides place h at f.0 f.1,
      previous_within links heads key sides place h at f.0 f.1,
      next_within links heads key sides place h at f.0 f.1,
    )

pub join-requires-clause-key : goal.join-requires-clause-key
join-requires-clause-key c =
    (bounds_loose c.args.links.now c.args.heads.now c.in-Loose.key c.in-Loose.sides c.args.place c.requires.rings
    c.in-Loose.is c.requires.fits).0

pub join-requires-clause-previous : goal.join-requires-clause-previous
join-requires-clause-previous c =
    let b =
    bounds_loose c.args.links.now c.args.heads.now c.in-Loose.key c.in-Loose.sides c.args.place c.requires.rings
    c.in-Loose.is c.requires.fits in
    let marked = length-set c.args.links.now c.args.place (kinds.Standing c.in-Loose.key c.in-Loose.sides) in
    subst (λ (n : ℕ). IfSome c.in-Loose.sides.previous (λ i. i < n)) (sym marked) b.2

pub join-requires-clause-next : goal.join-requires-clause-next
join-requires-clause-next c =
    let b =
    bounds_loose c.args.links.now c.args.heads.now c.in-Loose.key c.in-Loose.sides c.args.place c.requires.rings
    c.in-Loose.is c.requires.fits in
    omega (arith, b.1, length-set c.args.links.now c.args.place (kinds.Standing c.in-Loose.key c.in-Loose.sides))

pub join-requires-in-Loose-clause-key : goal.join-requires-in-Loose-clause-key
join-requires-in-Loose-clause-key c =
    let b =
    bounds_loose c.args.links.now c.args.heads.now c.in-Loose.key c.in-Loose.sides c.args.place c.requires.rings
    c.in-Loose.is c.requires.fits in
    omega (arith, b.0, c.join.auto.heads)

pub join-requires-in-Loose-clause-previous : goal.join-requires-in-Loose-clause-previous
join-requires-in-Loose-clause-previous c =
    let b =
    bounds_loose c.args.links.now c.args.heads.now c.in-Loose.key c.in-Loose.sides c.args.place c.requires.rings
    c.in-Loose.is c.requires.fits in
    let marked = length-set c.args.links.now c.args.place (kinds.Standing c.in-Loose.key c.in-Loose.sides) in
    omega (arith, b.1, marked, c.join.auto.links)

pub join-requires-in-Loose-clause-next : goal.join-requires-in-Loose-clause-next
join-requires-in-Loose-clause-next c =
    let b =
    bounds_loose c.args.links.now c.args.heads.now c.in-Loose.key c.in-Loose.sides c.args.place c.requires.rings
    c.in-Loose.is c.requires.fits in
    let marked = length-set c.args.links.now c.args.place (kinds.Standing c.in-Loose.key c.in-Loose.sides) in
    let count : length c.args.links.now ≡ length c.join.new.links = omega (arith, marked, c.join.auto.links) in
    subst (λ (n : ℕ). IfSome c.in-Loose.sides.next (λ i. i < n)) count b.3

pub returns-in-Loose-clause-rings : goal.returns-in-Loose-clause-rings
returns-in-Loose-clause-rings c =
    let links : List Link = c.args.links.now in
    let heads : List Sides = c.args.heads.now in
    let key : ℕ = c.in-Loose.key in
    let sides : Sides = c.in-Loose.sides in
    let place : ℕ = c.args.place in
    let fits = fits_loose links heads key sides place c.in-Loose.is c.requires.fits in
    let links_are = c.join-in-Loose.ensures.links
    ∙ ap (λ (xs : List Link). joined_links (Some place) sides.next xs) c.join.ensures.links in
    let heads_are = c.join-in-Loose.ensures.heads
    ∙ ap (λ (xs : List Sides). joined_heads key (Some place) sides.next xs) c.join.ensures.heads in
    subst (λ (xs : List Link). AreRings xs c.join-in-Loose.new.heads) (sym links_are)
    (subst (λ (xs : List Sides). AreRings (joined_links (Some place) sides.next
    (joined_links sides.previous (Some place) (set links place (kinds.Standing key sides)))) xs) (sym heads_are)
    (rings_put_back links heads key sides place c.requires.rings c.in-Loose.is fits.0 fits.1))

pub returns-in-Loose-clause-place : goal.returns-in-Loose-clause-place
returns-in-Loose-clause-place c =
    let links : List Link = c.args.links.now in
    let heads : List Sides = c.args.heads.now in
    let key : ℕ = c.in-Loose.key in
    let sides : Sides = c.in-Loose.sides in
    let place : ℕ = c.args.place in
    let fits = fits_loose links heads key sides place c.in-Loose.is c.requires.fits in
    ap entries_of c.join-in-Loose.ensures.links
    ∙ ap (λ (xs : List Link). entries_of (joined_links (Some place) sides.next xs)) c.join.ensures.links
    ∙ put_back_entries links heads key sides place c.requires.rings c.in-Loose.is fits.0 fits.1
