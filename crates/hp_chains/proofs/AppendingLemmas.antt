-- Rings where a place that stands in none is appended, or taken away from the end.
use Rattle.std.proofs.Common.{◌≡◌, ◌∙◌, ℕ, ◌+◌, ◌<◌, List, [], ◌∷◌, ◌++◌, Option, Some, None, length, take, get_or, set, refl, sym, ap, subst, arith}
use Rattle.std.proofs.lemmas.List.{get_or_append_left, get_or_push, length-map, map-append, set_at, take_all, take_more}
use Rattle.hp_chains.specs.declared.link.Link.{Link}
use Rattle.hp_chains.specs.declared.link.Sides.{Sides}
use Rattle.hp_chains.specs.declared.link.Link.TheVariants as kinds
use Rattle.hp_chains.specs.Entries.{AreNeighbours, Bare, Entry, FitsBack, IsPrevious, Loose, MayReturn, Standing, StandsAt, returned, standing_again}
use Rattle.hp_chains.specs.Chained.{AreRings, IsStop, entries_of, entry_of, sides_at, sides_of}
use Rattle.hp_chains.proofs.NearestLemmas.{stop_same}
use Rattle.hp_chains.proofs.StandingLemmas.{entry_shown, neighbours_same, stands_longer, stands_shorter, stands_within}
use Rattle.hp_chains.proofs.RingLemmas.{rings_same}

-- the sides of a stop are the same in a longer list
pub sides_longer : (links : List Link) (link : Link) (heads : List Sides) (k : ℕ) (t : Option ℕ)
    → IsStop (StandsAt k (entries_of links)) t → sides_at (links ++ link ∷ []) heads k t ≡ sides_at links heads k t
sides_longer links link heads k None h = refl
sides_longer links link heads k (Some i) h =
    let within : i < length links = omega (arith, stands_within (entries_of links) i k h, length-map links entry_of) in
    ap sides_of (get_or_append_left links (link ∷ []) kinds.Bare i within)

-- a link more is an entry more
pub entries_longer : (links : List Link) (link : Link)
    → entries_of (links ++ link ∷ []) ≡ entries_of links ++ entry_of link ∷ []
entries_longer links link = map-append entry_of links (link ∷ [])

-- rings stay rings where the last link stands in none
module _ (links : List Link) (link : Link) (heads : List Sides)
    (apart : (k : ℕ) → entry_of link ≡ Standing k → ⊥) where
  longer : (k i : ℕ) → StandsAt k (entries_of links) i → StandsAt k (entries_of (links ++ link ∷ [])) i
  longer k i h =
      subst (λ (es : List Entry). StandsAt k es i) (sym (entries_longer links link))
      (stands_longer (entries_of links) (entry_of link) k i h)

  shorter : (k i : ℕ) → StandsAt k (entries_of (links ++ link ∷ [])) i → StandsAt k (entries_of links) i
  shorter k i h =
      stands_shorter (entries_of links) (entry_of link) k i (apart k)
      (subst (λ (es : List Entry). StandsAt k es i) (entries_longer links link) h)

  -- rings stay rings where a link that stands in none is appended
  pub rings_longer : AreRings links heads → AreRings (links ++ link ∷ []) heads
  rings_longer =
      rings_same links heads (links ++ link ∷ []) longer shorter (λ k t h. sides_longer links link heads k t h)

  -- rings stay rings where a last link that stands in none is taken away
  pub rings_shorter : AreRings (links ++ link ∷ []) heads → AreRings links heads
  rings_shorter =
      rings_same (links ++ link ∷ []) heads links shorter longer
      (λ k t h.
      sym
      (sides_longer links link heads k t
      (stop_same (StandsAt k (entries_of (links ++ link ∷ []))) (StandsAt k (entries_of links)) t (shorter k) h)))

-- rings stay rings where the last place is taken away, which stands in none
pub rings_cut : (links : List Link) (heads : List Sides) (n : ℕ) → length links ≡ n + 1
    → ((k : ℕ) → StandsAt k (entries_of links) n → ⊥) → AreRings links heads → AreRings (take n links) heads
rings_cut links heads n e apart h =
    let last : Link = get_or links n kinds.Bare in
    let split : links ≡ take n links ++ last ∷ [] =
    sym (take_all (n + 1) links (omega (arith, e))) ∙ take_more links n kinds.Bare (omega (arith, e)) in
    rings_shorter (take n links) last heads (λ k q. apart k (entry_shown links n ∙ q))
    (subst (λ (xs : List Link). AreRings xs heads) split h)

-- a place that is appended behind the last of its key has its neighbours
pub fits_last : (es : List Entry) (key keys : ℕ) (p : Option ℕ) → key < keys → IsPrevious key es (length es) p
    → FitsBack keys (es ++ Loose key p None ∷ []) (length es)
fits_last es key keys p l h =
    let loose : Entry = Loose key p None in
    let es' : List Entry = es ++ loose ∷ [] in
    let was : AreNeighbours key es (length es) p None = record {
      before = h;
      behind = λ i m s. absurd (omega (arith, m, stands_within es i key s));
    } in
    let near =
    neighbours_same key (length es) es es' p None (λ i a s. stands_longer es loose key i s)
    (λ i a s. stands_shorter es loose key i (λ e. cc) s) was in
    subst (λ (e : Entry). MayReturn keys es' (length es) e) (sym (get_or_push es loose Bare (length es) refl)) (l, near)

-- a place that is appended and put back stands last
pub put_last : (es : List Entry) (key : ℕ) (p : Option ℕ)
    → returned (es ++ Loose key p None ∷ []) (length es) ≡ es ++ Standing key ∷ []
put_last es key p =
    let loose : Entry = Loose key p None in
    ap (λ (e : Entry). set (es ++ loose ∷ []) (length es) (standing_again e))
    (get_or_push es loose Bare (length es) refl)
    ∙ set_at es loose [] (Standing key) (length es) refl
