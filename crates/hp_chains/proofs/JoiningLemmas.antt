-- The sides of stops where two of them become neighbours.
use Rattle.std.proofs.Common.{◌≡◌, ◌∙◌, ℕ, ◌<◌, ◌⊎◌, inl, inr, List, Option, Some, None, length, get_or, refl, sym, ap, subst, arith}
use Rattle.std.proofs.Math.Seq.{map-set_same}
use Rattle.std.proofs.lemmas.Bool.{cases_eq}
use Rattle.std.proofs.lemmas.List.{get_or-set_other, get_or-set_same, length-map, length-set}
use Rattle.hp_chains.specs.declared.link.Link.{Link}
use Rattle.hp_chains.specs.declared.link.Sides.{Sides}
use Rattle.hp_chains.specs.declared.link.Link.TheVariants as kinds
use Rattle.hp_chains.specs.Entries.{Entry, Standing, StandsAt}
use Rattle.hp_chains.specs.Chained.{IsStop, entries_of, entry_of, joined_heads, joined_links, no_sides, sides_at, sides_of, turned, turned_heads, turned_links, with_next, with_previous}
use Rattle.hp_chains.proofs.NearestLemmas.{cases_stop}
use Rattle.hp_chains.proofs.StandingLemmas.{entry_shown, key_unique, stands_within}

-- a stop is this one of this key, or not
pub cases_at : (k key : ℕ) (t p : Option ℕ) → ((k ≡ key) × (t ≡ p)) ⊎ ((k ≡ key) × (t ≡ p) → ⊥)
cases_at k key t p = elim (cases_eq k key) [
  | inl e ↦ elim (cases_stop t p) [ inl f ↦ inl (e, f) | inr n ↦ inr (λ w. n w.1) ]
  | inr n ↦ inr (λ w. n w.0)
]

-- changed sides leave a standing link standing
pub turned_entry : (f : Sides → Sides) (l : Link) (key : ℕ) → entry_of l ≡ Standing key
    → entry_of (turned f l) ≡ entry_of l
turned_entry f kinds.Bare key h = refl
turned_entry f (kinds.Standing k sides) key h = refl
turned_entry f (kinds.Loose k sides) key h = absurd (cc)

-- the sides of a standing link are changed
pub turned_sides : (f : Sides → Sides) (l : Link) (key : ℕ) → entry_of l ≡ Standing key
    → sides_of (turned f l) ≡ f (sides_of l)
turned_sides f kinds.Bare key h = absurd (cc)
turned_sides f (kinds.Standing k sides) key h = refl
turned_sides f (kinds.Loose k sides) key h = refl

-- changed sides of a stop change nothing that contracts see
pub turned_entries : (f : Sides → Sides) (links : List Link) (key : ℕ) (p : Option ℕ)
    → IsStop (StandsAt key (entries_of links)) p → entries_of (turned_links f p links) ≡ entries_of links
turned_entries f links key None h = refl
turned_entries f links key (Some i) h =
    let link = get_or links i kinds.Bare in
    map-set_same entry_of links i (turned f link) kinds.Bare (turned_entry f link key (sym (entry_shown links i) ∙ h))

-- changed sides leave the number of heads
pub turned_length : (f : Sides → Sides) (heads : List Sides) (key : ℕ) (p : Option ℕ)
    → length (turned_heads f key p heads) ≡ length heads
turned_length f heads key None = length-set heads key (f (get_or heads key no_sides))
turned_length f heads key (Some i) = refl

-- the sides of a stop are changed
pub sides_turned : (f : Sides → Sides) (links : List Link) (heads : List Sides) (key : ℕ) (p : Option ℕ)
    → key < length heads → IsStop (StandsAt key (entries_of links)) p
    → sides_at (turned_links f p links) (turned_heads f key p heads) key p ≡ f (sides_at links heads key p)
sides_turned f links heads key None l h = get_or-set_same heads key (f (get_or heads key no_sides)) no_sides l
sides_turned f links heads key (Some i) l h =
    let link = get_or links i kinds.Bare in
    let within : i < length links =
    omega (arith, stands_within (entries_of links) i key h, length-map links entry_of) in
    ap sides_of (get_or-set_same links i (turned f link) kinds.Bare within)
    ∙ turned_sides f link key (sym (entry_shown links i) ∙ h)

-- the sides of other stops are those that they were
pub sides_kept : (f : Sides → Sides) (links : List Link) (heads : List Sides) (key : ℕ) (p : Option ℕ) (k : ℕ)
    (t : Option ℕ) → IsStop (StandsAt key (entries_of links)) p → IsStop (StandsAt k (entries_of links)) t
    → ((k ≡ key) × (t ≡ p) → ⊥)
    → sides_at (turned_links f p links) (turned_heads f key p heads) k t ≡ sides_at links heads k t
sides_kept f links heads key None k None h g n =
    get_or-set_other heads key k (f (get_or heads key no_sides)) no_sides (λ e. n (e, refl))
sides_kept f links heads key None k (Some j) h g n = refl
sides_kept f links heads key (Some i) k None h g n = refl
sides_kept f links heads key (Some i) k (Some j) h g n =
    ap sides_of
    (get_or-set_other links i j (turned f (get_or links i kinds.Bare)) kinds.Bare
    (λ e. n (key_unique (entries_of links) j i k key e g h, ap Some e)))

-- a side that a change leaves is what it was at each stop
pub side_kept : (f : Sides → Sides) (side : Sides → Option ℕ) → ((s : Sides) → side (f s) ≡ side s)
    → (links : List Link) (heads : List Sides) (key : ℕ) (p : Option ℕ) (k : ℕ) (t : Option ℕ) → key < length heads
    → IsStop (StandsAt key (entries_of links)) p → IsStop (StandsAt k (entries_of links)) t
    → side (sides_at (turned_links f p links) (turned_heads f key p heads) k t) ≡ side (sides_at links heads k t)
side_kept f side keeps links heads key p k t l h g =
    let Same : ℕ → Option ℕ → Type 0 =
    λ k t. side (sides_at (turned_links f p links) (turned_heads f key p heads) k t)
    ≡ side (sides_at links heads k t) in
    elim (cases_at k key t p) [
      | inl e ↦
          subst (λ (x : ℕ). Same x t) (sym e.0)
          (subst (λ (x : Option ℕ). Same key x) (sym e.1)
          (ap side (sides_turned f links heads key p l h) ∙ keeps (sides_at links heads key p)))
      | inr n ↦ ap side (sides_kept f links heads key p k t h g n)
    ]

-- two stops tell each other, and all else is as it was
pub record IsJoined (key : ℕ) (p n : Option ℕ) (links : List Link) (heads : List Sides) (links' : List Link)
    (heads' : List Sides) : Type 0 where
  pub entries : entries_of links' ≡ entries_of links
  pub keys : length heads' ≡ length heads
  pub next : (sides_at links' heads' key p).next ≡ n
  pub previous : (sides_at links' heads' key n).previous ≡ p
  pub nexts : (k : ℕ) (t : Option ℕ) → IsStop (StandsAt k (entries_of links)) t → ((k ≡ key) × (t ≡ p) → ⊥)
      → (sides_at links' heads' k t).next ≡ (sides_at links heads k t).next
  pub previouses : (k : ℕ) (t : Option ℕ) → IsStop (StandsAt k (entries_of links)) t → ((k ≡ key) × (t ≡ n) → ⊥)
      → (sides_at links' heads' k t).previous ≡ (sides_at links heads k t).previous

-- two stops that are joined tell each other
pub joined : (key : ℕ) (p n : Option ℕ) (links : List Link) (heads : List Sides) → key < length heads
    → IsStop (StandsAt key (entries_of links)) p → IsStop (StandsAt key (entries_of links)) n
    → IsJoined key p n links heads (joined_links p n links) (joined_heads key p n heads)
joined key p n links heads l hp hn =
    let first_links : List Link = turned_links (with_next n) p links in
    let first_heads : List Sides = turned_heads (with_next n) key p heads in
    let shown : entries_of first_links ≡ entries_of links = turned_entries (with_next n) links key p hp in
    let Stop : ℕ → Option ℕ → List Entry → Type 0 = λ k t es. IsStop (StandsAt k es) t in
    let still = λ (k : ℕ) (t : Option ℕ) (h : Stop k t (entries_of links)). subst (λ (es : List Entry). Stop k t es)
    (sym shown) h in
    let count : length first_heads ≡ length heads = turned_length (with_next n) heads key p in
    let l1 : key < length first_heads = omega arith in
    record {
      entries = turned_entries (with_previous p) first_links key n (still key n hn) ∙ shown;
      keys = turned_length (with_previous p) first_heads key n ∙ count;
      next =
          side_kept (with_previous p) (λ s. s.next) (λ s. refl) first_links first_heads key n key p l1 (still key n hn)
          (still key p hp)
          ∙ ap (λ (s : Sides). s.next) (sides_turned (with_next n) links heads key p l hp);
      previous =
          ap (λ (s : Sides). s.previous)
          (sides_turned (with_previous p) first_links first_heads key n l1 (still key n hn));
      nexts = λ k t h other.
          side_kept (with_previous p) (λ s. s.next) (λ s. refl) first_links first_heads key n k t l1
          (still key n hn) (still k t h)
          ∙ ap (λ (s : Sides). s.next) (sides_kept (with_next n) links heads key p k t hp h other);
      previouses = λ k t h other.
          ap (λ (s : Sides). s.previous)
          (sides_kept (with_previous p) first_links first_heads key n k t (still key n hn) (still k t h) other)
          ∙ side_kept (with_next n) (λ s. s.previous) (λ s. refl) links heads key p k t l hp h;
    }
