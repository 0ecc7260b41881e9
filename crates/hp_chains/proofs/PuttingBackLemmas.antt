-- What is left of rings where a place is put back into one.
use Rattle.std.proofs.Common.{◌≡◌, ◌∙◌, ℕ, ◌+◌, ◌<◌, ◌≤◌, inl, inr, List, Option, Some, None, length, get_or, set, refl, sym, ap, subst, arith}
use Rattle.std.proofs.lemmas.Bool.{cases_eq}
use Rattle.std.specs.Option.{IfSome}
use Rattle.std.proofs.lemmas.List.{get_or-set_other, get_or-set_same, length-map, map-set}
use Rattle.hp_chains.specs.declared.link.Link.{Link}
use Rattle.hp_chains.specs.declared.link.Sides.{Sides}
use Rattle.hp_chains.specs.declared.link.Link.TheVariants as kinds
use Rattle.hp_chains.specs.Entries.{AreNeighbours, Entry, Loose, Reversed, Standing, StandsAt, entry_at, returned, standing_again}
use Rattle.hp_chains.specs.Chained.{AreRings, IsBeside, IsStop, entries_of, entry_of, joined_heads, joined_links, sides_at, sides_of}
use Rattle.hp_chains.proofs.NearestLemmas.{ascending, beside_apart, nearest_stops, order_reversed}
use Rattle.hp_chains.proofs.StandingLemmas.{IsWith, beside_behind, entry_shown, loose_within, stop_within, with_place}
use Rattle.hp_chains.proofs.JoiningLemmas.{IsJoined, joined}
use Rattle.hp_chains.proofs.RingLemmas.{put_back_beside}

-- a link that is written with the sides that it had leaves the sides of all stops
pub sides_same : (links : List Link) (heads : List Sides) (place : ℕ) (link : Link) (k : ℕ) (t : Option ℕ)
    → place < length links → sides_of link ≡ sides_of (get_or links place kinds.Bare)
    → sides_at (set links place link) heads k t ≡ sides_at links heads k t
sides_same links heads place link k None l e = refl
sides_same links heads place link k (Some j) l e =
    elim (cases_eq j place) [
      | inl q ↦
          subst
          (λ (x : ℕ). sides_of (get_or (set links place link) x kinds.Bare) ≡ sides_of (get_or links x kinds.Bare))
          (sym q) (ap sides_of (get_or-set_same links place link kinds.Bare l) ∙ e)
      | inr n ↦ ap sides_of (get_or-set_other links place j link kinds.Bare n)
    ]

-- the entry of a loose link has its sides
pub loose_shown : (links : List Link) (key : ℕ) (sides : Sides) (place : ℕ)
    → get_or links place kinds.Bare ≡ kinds.Loose key sides
    → entry_at (entries_of links) place ≡ Loose key sides.previous sides.next
loose_shown links key sides place at = entry_shown links place ∙ ap entry_of at

-- what is left where a loose link is put back whose sides are its neighbours
module _ (links : List Link) (heads : List Sides) (key : ℕ) (sides : Sides) (place : ℕ) (h : AreRings links heads)
    (at : get_or links place kinds.Bare ≡ kinds.Loose key sides) (l : key < length heads)
    (near : AreNeighbours key (entries_of links) place sides.previous sides.next) where
  -- what contracts see of the place
  shown : entry_at (entries_of links) place ≡ Loose key sides.previous sides.next
  shown = loose_shown links key sides place at

  -- the place is one
  loose_place : place < length (entries_of links)
  loose_place = loose_within (entries_of links) place key sides.previous sides.next shown

  -- the place is within the list
  pub place_within : place < length links
  place_within = omega (arith, loose_place, length-map links entry_of)

  -- the place before it is within the list
  pub previous_within : IfSome sides.previous (λ i. i < length links)
  previous_within =
      stop_within links key sides.previous
      (nearest_stops (Reversed ◌<◌) (λ i. i < place) (StandsAt key (entries_of links)) sides.previous near.before)

  -- the place behind it is within the list
  pub next_within : IfSome sides.next (λ i. i < length links)
  next_within =
      stop_within links key sides.next
      (nearest_stops ◌<◌ (λ i. place + 1 ≤ i) (StandsAt key (entries_of links)) sides.next near.behind)

  -- links where the place stands
  abbrev pub marked : List Link
  marked = set links place (kinds.Standing key sides)

  -- links where it is the next of the stop before it
  abbrev pub led : List Link
  led = joined_links sides.previous (Some place) marked

  -- heads where it is the next of the stop before it
  abbrev pub led_heads : List Sides
  led_heads = joined_heads key sides.previous (Some place) heads

  -- links where it is the previous of the stop behind it too
  abbrev pub whole : List Link
  whole = joined_links (Some place) sides.next led

  -- heads where it is the previous of the stop behind it too
  abbrev pub whole_heads : List Sides
  whole_heads = joined_heads key (Some place) sides.next led_heads

  pub marked_entries : entries_of marked ≡ set (entries_of links) place (Standing key)
  marked_entries = map-set entry_of links place (kinds.Standing key sides)

  pub marked_with : IsWith key place (entries_of links) (entries_of marked)
  marked_with =
      with_place (entries_of links) (entries_of marked) place key sides.previous sides.next loose_place shown
      marked_entries

  pub marked_sides : (k : ℕ) (t : Option ℕ) → sides_at marked heads k t ≡ sides_at links heads k t
  marked_sides k t =
      sides_same links heads place (kinds.Standing key sides) k t place_within (sym (ap sides_of at))

  marked_stop : (k : ℕ) (t : Option ℕ) → IsStop (StandsAt k (entries_of links)) t
      → IsStop (StandsAt k (entries_of marked)) t
  marked_stop k None stop = tt
  marked_stop k (Some i) stop = marked_with.kept k i stop

  pub stop_previous : IsStop (StandsAt key (entries_of marked)) sides.previous
  stop_previous =
      marked_stop key sides.previous
      (nearest_stops (Reversed ◌<◌) (λ i. i < place) (StandsAt key (entries_of links)) sides.previous near.before)

  pub loose_behind : IsBeside ◌<◌ (StandsAt key (entries_of links)) (Some place) sides.next
  loose_behind = beside_behind key (entries_of links) place sides.next near.behind

  pub stop_next : IsStop (StandsAt key (entries_of marked)) sides.next
  stop_next =
      marked_stop key sides.next
      (nearest_stops ◌<◌ (λ i. place < i) (StandsAt key (entries_of links)) sides.next loose_behind)

  pub led_joined : IsJoined key sides.previous (Some place) marked heads led led_heads
  led_joined = joined key sides.previous (Some place) marked heads l stop_previous marked_with.here

  pub led_stop : (k : ℕ) (t : Option ℕ) → IsStop (StandsAt k (entries_of marked)) t
      → IsStop (StandsAt k (entries_of led)) t
  led_stop k t stop = subst (λ (es : List Entry). IsStop (StandsAt k es) t) (sym led_joined.entries) stop

  pub led_within : key < length led_heads
  led_within = let e : length led_heads ≡ length heads = led_joined.keys in omega (arith, l)

  pub whole_joined : IsJoined key (Some place) sides.next led led_heads whole whole_heads
  whole_joined =
      joined key (Some place) sides.next led led_heads led_within (led_stop key (Some place) marked_with.here)
      (led_stop key sides.next stop_next)

  -- the place stands again, and all else is as it was
  pub whole_entries : entries_of whole ≡ set (entries_of links) place (Standing key)
  whole_entries = whole_joined.entries ∙ led_joined.entries ∙ marked_entries

  pub put_back_entries : entries_of whole
      ≡ returned (entries_of links) place
  put_back_entries =
      whole_entries
      ∙ ap (λ (e : Entry). set (entries_of links) place (standing_again e)) (sym shown)

  -- rings stay rings where the place is put back
  pub rings_put_back : AreRings whole whole_heads
  rings_put_back =
      let p : Option ℕ = sides.previous in
      let n : Option ℕ = sides.next in
      let es : List Entry = entries_of links in
      let first = led_joined in
      let second = whole_joined in
      let count : length whole_heads ≡ length heads = second.keys ∙ first.keys in
      let plus : IsWith key place es (entries_of whole) =
      with_place es (entries_of whole) place key p n loose_place shown whole_entries in
      let p_apart : p ≡ Some place → ⊥ =
      beside_apart (Reversed ◌<◌) (order_reversed ◌<◌ ascending) (StandsAt key es) place p near.before in
      let n_apart : n ≡ Some place → ⊥ = beside_apart ◌<◌ ascending (StandsAt key es) place n loose_behind in
      record {
        next =
            put_back_beside ◌<◌ ascending (λ s. s.next) links heads whole whole_heads key place p n h.next count
            near.before loose_behind plus
            (second.nexts key p (led_stop key p stop_previous) (λ e. p_apart e.1) ∙ first.next) second.next
            (λ k t stop other apart.
            second.nexts k t (led_stop k t (marked_stop k t stop)) apart
            ∙ first.nexts k t (marked_stop k t stop) other ∙ ap (λ (s : Sides). s.next) (marked_sides k t));
        previous =
            put_back_beside (Reversed ◌<◌) (order_reversed ◌<◌ ascending) (λ s. s.previous) links heads whole
            whole_heads key place n p h.previous count loose_behind near.before plus second.previous
            (second.previouses key (Some place) (led_stop key (Some place) marked_with.here) (λ e. n_apart (sym e.1))
            ∙ first.previous)
            (λ k t stop other apart.
            second.previouses k t (led_stop k t (marked_stop k t stop)) other
            ∙ first.previouses k t (marked_stop k t stop) apart
            ∙ ap (λ (s : Sides). s.previous) (marked_sides k t));
        keys = λ k i stood. elim (plus.more k i stood) [
          | inl there ↦ let m : k < length heads = h.keys k i there in omega (arith, count)
          | inr e ↦ let same : k ≡ key = e.0 in omega (arith, count, l)
        ];
      }
