-- What rings tell of the places of a key.
use Rattle.std.proofs.Common.{◌≡◌, ◌∙◌, ℕ, ◌+◌, ◌<◌, ◌≤◌, List, Option, Some, None, length, get_or, sym, ap, subst, arith}
use Rattle.hp_chains.specs.declared.link.Link.{Link}
use Rattle.hp_chains.specs.declared.link.Sides.{Sides}
use Rattle.hp_chains.specs.declared.link.Link.TheVariants as kinds
use Rattle.hp_chains.specs.Entries.{Entry, IsNext, IsPrevious, Reversed, Standing, StandsAt}
use Rattle.hp_chains.specs.Chained.{AreRings, IsBeside, IsBeyond, entries_of, entry_of, no_sides, sides_of}
use Rattle.hp_chains.proofs.NearestLemmas.{nearest_on_side}
use Rattle.hp_chains.proofs.StandingLemmas.{entry_shown, next_behind, stands_within}
use Rattle.hp_chains.proofs.TakingOutLemmas.{standing_behind}

-- what a head tells is the first place of its key
pub first_told : (links : List Link) (heads : List Sides) (key : ℕ) (sides : Sides) → AreRings links heads
    → key < length heads → get_or heads key no_sides ≡ sides → IsNext key (entries_of links) 0 sides.next
first_told links heads key sides h l e =
    subst (λ (s : Sides). IsNext key (entries_of links) 0 s.next) e
    (nearest_on_side ◌<◌ (StandsAt key (entries_of links)) (IsBeyond ◌<◌ None) (λ i. 0 ≤ i)
    (get_or heads key no_sides).next (λ i m. omega arith) (λ i m. tt) (h.next key None l tt))

-- what a head tells is the last place of its key
pub last_told : (links : List Link) (heads : List Sides) (key : ℕ) (sides : Sides) → AreRings links heads
    → key < length heads → get_or heads key no_sides ≡ sides
    → IsPrevious key (entries_of links) (length (entries_of links)) sides.previous
last_told links heads key sides h l e =
    subst (λ (s : Sides). IsPrevious key (entries_of links) (length (entries_of links)) s.previous) e
    (last_within key (entries_of links) (get_or heads key no_sides).previous (h.previous key None l tt))
  where
    last_within : (key : ℕ) (es : List Entry) (x : Option ℕ) → IsBeside (Reversed ◌<◌) (StandsAt key es) None x
        → IsPrevious key es (length es) x
    last_within key es None h = λ i m t. h i tt t
    last_within key es (Some i) h = (stands_within es i key h.1, h.1, λ j m l t. h.2 j tt l t)

-- what a standing link tells is the next place of its key
pub next_told : (links : List Link) (heads : List Sides) (key place : ℕ) (sides : Sides) → AreRings links heads
    → get_or links place kinds.Bare ≡ kinds.Standing key sides → IsNext key (entries_of links) (place + 1) sides.next
next_told links heads key place sides h e =
    next_behind key (entries_of links) place sides.next (standing_behind links heads key sides place h e)

-- a link whose entry stands is one that stands
pub standing_link : (link : Link) (key : ℕ) → entry_of link ≡ Standing key → link ≡ kinds.Standing key (sides_of link)
standing_link kinds.Bare key h = absurd (cc)
standing_link (kinds.Standing k sides) key h = let e : k ≡ key = cc in ap (λ (x : ℕ). kinds.Standing x sides) e
standing_link (kinds.Loose k sides) key h = absurd (cc)

-- what is next to a place that stands among those of a key is the next place of the key
pub stepped : (links : List Link) (heads : List Sides) (key place : ℕ) (sides : Sides) → AreRings links heads
    → StandsAt key (entries_of links) place → sides ≡ sides_of (get_or links place kinds.Bare)
    → IsNext key (entries_of links) (place + 1) sides.next
stepped links heads key place sides h stood e =
    let link : Link = get_or links place kinds.Bare in
    subst (λ (s : Sides). IsNext key (entries_of links) (place + 1) s.next) (sym e)
    (next_told links heads key place (sides_of link) h (standing_link link key (sym (entry_shown links place) ∙ stood)))
