-- What is left of rings where a place is taken out of one.
use Rattle.std.proofs.Common.{◌≡◌, ◌∙◌, ℕ, ◌<◌, List, Option, Some, None, length, get_or, set, refl, ap, subst, arith}
use Rattle.std.proofs.lemmas.List.{get_or-set_other, map-set}
use Rattle.hp_chains.specs.declared.link.Link.{Link}
use Rattle.hp_chains.specs.declared.link.Sides.{Sides}
use Rattle.hp_chains.specs.declared.link.Link.TheVariants as kinds
use Rattle.hp_chains.specs.Entries.{AreNeighbours, Entry, IsPrevious, IsTakenOut, Loose, Reversed, StandsAt}
use Rattle.hp_chains.specs.Chained.{AreRings, IsBeside, IsStop, entries_of, entry_of, joined_heads, joined_links, sides_at, sides_of}
use Rattle.hp_chains.proofs.NearestLemmas.{ascending, beside_apart, nearest_stops, order_reversed}
use Rattle.hp_chains.proofs.StandingLemmas.{IsWithout, entry_shown, key_unique, next_behind, stands_within, without_place}
use Rattle.hp_chains.proofs.JoiningLemmas.{IsJoined, joined}
use Rattle.hp_chains.proofs.RingLemmas.{taken_out_beside}

-- a link that is written leaves the sides of other stops
pub sides_elsewhere : (links : List Link) (heads : List Sides) (place : ℕ) (link : Link) (k : ℕ) (t : Option ℕ)
    → (t ≡ Some place → ⊥) → sides_at (set links place link) heads k t ≡ sides_at links heads k t
sides_elsewhere links heads place link k None n = refl
sides_elsewhere links heads place link k (Some j) n =
    ap sides_of (get_or-set_other links place j link kinds.Bare (λ e. n (ap Some e)))

-- what a link that stands tells, and what is left where it is taken out
module _ (links : List Link) (heads : List Sides) (key : ℕ) (sides : Sides) (place : ℕ) (h : AreRings links heads)
    (at : get_or links place kinds.Bare ≡ kinds.Standing key sides) where
  -- the place stands among those of its key
  pub standing_shown : StandsAt key (entries_of links) place
  standing_shown = entry_shown links place ∙ ap entry_of at

  -- the previous place is the one before it
  pub standing_before : IsPrevious key (entries_of links) place sides.previous
  standing_before =
      subst (λ (s : Sides). IsPrevious key (entries_of links) place s.previous) (ap sides_of at)
      (h.previous key (Some place) (h.keys key place standing_shown) standing_shown)

  -- the next place is beside it
  pub standing_behind : IsBeside ◌<◌ (StandsAt key (entries_of links)) (Some place) sides.next
  standing_behind =
      subst (λ (s : Sides). IsBeside ◌<◌ (StandsAt key (entries_of links)) (Some place) s.next) (ap sides_of at)
      (h.next key (Some place) (h.keys key place standing_shown) standing_shown)

  -- its sides are its neighbours
  pub standing_neighbours : AreNeighbours key (entries_of links) place sides.previous sides.next
  standing_neighbours = record {
    before = standing_before;
    behind = next_behind key (entries_of links) place sides.next standing_behind;
  }

  -- its sides can be joined
  pub standing_joined : IsJoined key sides.previous sides.next links heads
      (joined_links sides.previous sides.next links) (joined_heads key sides.previous sides.next heads)
  standing_joined =
      joined key sides.previous sides.next links heads (h.keys key place standing_shown)
      (nearest_stops (Reversed ◌<◌) (λ i. i < place) (StandsAt key (entries_of links)) sides.previous standing_before)
      (nearest_stops ◌<◌ (λ i. place < i) (StandsAt key (entries_of links)) sides.next standing_behind)

  -- what is left is all else, and the place loose
  pub taken_out_entries : entries_of (set (joined_links sides.previous sides.next links) place (kinds.Loose key sides))
      ≡ set (entries_of links) place (Loose key sides.previous sides.next)
  taken_out_entries =
      map-set entry_of (joined_links sides.previous sides.next links) place (kinds.Loose key sides)
      ∙ ap (λ (es : List Entry). set es place (Loose key sides.previous sides.next)) standing_joined.entries

  -- the place is taken out
  pub taken_out : IsTakenOut place (entries_of links)
      (entries_of (set (joined_links sides.previous sides.next links) place (kinds.Loose key sides)))
  taken_out = record {
    standing = λ k stood.
        let same : key ≡ k = key_unique (entries_of links) place place key k refl standing_shown stood in (
          sides.previous,
          sides.next,
          subst (λ (x : ℕ). AreNeighbours x (entries_of links) place sides.previous sides.next) same
              standing_neighbours,
          taken_out_entries
              ∙ ap (λ (x : ℕ). set (entries_of links) place (Loose x sides.previous sides.next)) same,
        );
    other = λ none. absurd (none key standing_shown);
  }

  -- rings stay rings where the place is taken out
  pub rings_taken_out : AreRings (set (joined_links sides.previous sides.next links) place (kinds.Loose key sides))
      (joined_heads key sides.previous sides.next heads)
  rings_taken_out =
      let p : Option ℕ = sides.previous in
      let n : Option ℕ = sides.next in
      let es : List Entry = entries_of links in
      let mid : List Link = joined_links p n links in
      let heads' : List Sides = joined_heads key p n heads in
      let links' : List Link = set mid place (kinds.Loose key sides) in
      let es' : List Entry = entries_of links' in
      let j = standing_joined in
      let count : length heads' ≡ length heads = j.keys in
      let without : IsWithout place es es' =
      without_place es es' place key p n (stands_within es place key standing_shown) taken_out_entries in
      let elsewhere : (k : ℕ) (t : Option ℕ) → (t ≡ Some place → ⊥)
      → sides_at links' heads' k t ≡ sides_at mid heads' k t =
      λ k t a. sides_elsewhere mid heads' place (kinds.Loose key sides) k t a in
      let apart : (k : ℕ) (t : Option ℕ) → IsStop (StandsAt k es') t → t ≡ Some place → ⊥ = λ k t stop e.
      let it : StandsAt k es' place = subst (λ (x : Option ℕ). IsStop (StandsAt k es') x) e stop in
      (without.fewer k place it).1 refl in
      let stopped : (k : ℕ) (t : Option ℕ) → IsStop (StandsAt k es') t → IsStop (StandsAt k es) t = λ k t.
      elim t as (λ t. IsStop (StandsAt k es') t → IsStop (StandsAt k es) t) [
        | None ↦ λ stop. tt
        | Some i ↦ λ stop. (without.fewer k i stop).0
      ] in
      let p_apart : p ≡ Some place → ⊥ =
      beside_apart (Reversed ◌<◌) (order_reversed ◌<◌ ascending) (StandsAt key es) place p standing_before in
      let n_apart : n ≡ Some place → ⊥ = beside_apart ◌<◌ ascending (StandsAt key es) place n standing_behind in
      record {
        next =
            taken_out_beside ◌<◌ ascending (λ s. s.next) links heads links' heads' key place p n h.next count
            standing_shown standing_before standing_behind without
            (ap (λ (s : Sides). s.next) (elsewhere key p p_apart) ∙ j.next)
            (λ k t stop other.
            ap (λ (s : Sides). s.next) (elsewhere k t (apart k t stop)) ∙ j.nexts k t (stopped k t stop) other);
        previous =
            taken_out_beside (Reversed ◌<◌) (order_reversed ◌<◌ ascending) (λ s. s.previous) links heads links'
            heads' key place n p h.previous count standing_shown standing_behind standing_before without
            (ap (λ (s : Sides). s.previous) (elsewhere key n n_apart) ∙ j.previous)
            (λ k t stop other.
            ap (λ (s : Sides). s.previous) (elsewhere k t (apart k t stop))
            ∙ j.previouses k t (stopped k t stop) other);
        keys = λ k i stood. let l : k < length heads = h.keys k i (without.fewer k i stood).0 in omega (arith, count);
      }
