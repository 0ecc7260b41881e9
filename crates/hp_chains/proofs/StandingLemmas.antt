-- What stands in entries, in those of links, and where one of them changes.
use Rattle.std.proofs.Common.{◌≡◌, ◌≢◌, ◌∙◌, ℕ, zero, suc, ◌+◌, ◌<◌, ◌≤◌, ◌⊎◌, inl, inr, List, [], ◌∷◌, ◌++◌, Option, Some, None, length, get_or, set, sym, ap, subst, arith}
use Rattle.std.proofs.Math.ListN.{get_or-map}
use Rattle.std.proofs.lemmas.Bool.{cases_eq, cases_lt}
use Rattle.std.proofs.lemmas.List.{get_or-set_other, get_or-set_same, get_or_append_left, get_or_past, length-map}
use Rattle.std.specs.Option.{IfSome}
use Rattle.hp_chains.specs.declared.link.Link.{Link}
use Rattle.hp_chains.specs.declared.link.Link.TheVariants as kinds
use Rattle.hp_chains.specs.Entries.{AreNeighbours, Bare, Entry, IsNext, Loose, Reversed, Standing, StandsAt, entry_at}
use Rattle.hp_chains.specs.Chained.{IsBeside, IsStop, entries_of, entry_of}
use Rattle.hp_chains.proofs.NearestLemmas.{nearest_on_side, nearest_same}

-- the entry of a place is that of its link
pub entry_shown : (links : List Link) (i : ℕ) → entry_at (entries_of links) i ≡ entry_of (get_or links i kinds.Bare)
entry_shown links i = get_or-map entry_of links i kinds.Bare

-- what stands among those of a key is a place
pub stands_within : (es : List Entry) (i key : ℕ) → StandsAt key es i → i < length es
stands_within [] i key h = absurd (cc)
stands_within (e ∷ es) zero key h = omega arith
stands_within (e ∷ es) (suc i) key h = let l = stands_within es i key h in omega arith

-- a place stands among those of one key alone
pub key_unique : (es : List Entry) (i j k key : ℕ) → i ≡ j → StandsAt k es i → StandsAt key es j → k ≡ key
key_unique es i j k key e h g =
    let there : StandsAt k es j = subst (λ (x : ℕ). StandsAt k es x) e h in
    cc

-- a stop that is a place is within the list
pub stop_within : (links : List Link) (key : ℕ) (t : Option ℕ) → IsStop (StandsAt key (entries_of links)) t
    → IfSome t (λ i. i < length links)
stop_within links key None h = tt
stop_within links key (Some i) h = omega (arith, stands_within (entries_of links) i key h, length-map links entry_of)

-- the next place of a key behind one is beside it
pub beside_behind : (key : ℕ) (es : List Entry) (place : ℕ) (n : Option ℕ) → IsNext key es (place + 1) n
    → IsBeside ◌<◌ (StandsAt key es) (Some place) n
beside_behind key es place n =
    nearest_on_side ◌<◌ (StandsAt key es) (λ i. place + 1 ≤ i) (λ i. place < i) n (λ i l. omega arith)
    (λ i l. omega arith)

-- what is beside a place is the next one of the key behind it
pub next_behind : (key : ℕ) (es : List Entry) (place : ℕ) (n : Option ℕ)
    → IsBeside ◌<◌ (StandsAt key es) (Some place) n → IsNext key es (place + 1) n
next_behind key es place n =
    nearest_on_side ◌<◌ (StandsAt key es) (λ i. place < i) (λ i. place + 1 ≤ i) n (λ i l. omega arith)
    (λ i l. omega arith)

-- neighbours of a place are so where the same stands but for the place
pub neighbours_same : (key place : ℕ) (es es' : List Entry) (p n : Option ℕ)
    → ((i : ℕ) → i ≢ place → StandsAt key es i → StandsAt key es' i)
    → ((i : ℕ) → i ≢ place → StandsAt key es' i → StandsAt key es i) → AreNeighbours key es place p n
    → AreNeighbours key es' place p n
neighbours_same key place es es' p n there back h = record {
  before =
      nearest_same (Reversed ◌<◌) (λ i. i < place) (StandsAt key es) (StandsAt key es') p
      (λ i l s. there i (omega (arith, l)) s) (λ i l s. back i (omega (arith, l)) s) h.before;
  behind =
      nearest_same ◌<◌ (λ i. place + 1 ≤ i) (StandsAt key es) (StandsAt key es') n
      (λ i l s. there i (omega (arith, l)) s) (λ i l s. back i (omega (arith, l)) s) h.behind;
}

-- in a longer list what stood stands
pub stands_longer : (es : List Entry) (e : Entry) (k i : ℕ) → StandsAt k es i → StandsAt k (es ++ e ∷ []) i
stands_longer es e k i h = get_or_append_left es (e ∷ []) Bare i (stands_within es i k h) ∙ h

-- in a shorter list what stood stands, where the last entry did not
pub stands_shorter : (es : List Entry) (e : Entry) (k i : ℕ) → (e ≡ Standing k → ⊥) → StandsAt k (es ++ e ∷ []) i
    → StandsAt k es i
stands_shorter [] e k zero n h = absurd (n h)
stands_shorter [] e k (suc i) n h = h
stands_shorter (x ∷ es) e k zero n h = h
stands_shorter (x ∷ es) e k (suc i) n h = stands_shorter es e k i n h

-- what is loose is a place
pub loose_within : (es : List Entry) (place key : ℕ) (p n : Option ℕ) → entry_at es place ≡ Loose key p n
    → place < length es
loose_within es place key p n h = elim (cases_lt place (length es)) [
  | inl l ↦ l
  | inr past ↦ let bare = get_or_past es place Bare past in absurd (cc)
]

-- what stands is what stood, but for a place
pub record IsWithout (place : ℕ) (es es' : List Entry) : Type 0 where
  pub fewer : (k i : ℕ) → StandsAt k es' i → StandsAt k es i × (i ≢ place)
  pub kept : (k i : ℕ) → StandsAt k es i → i ≢ place → StandsAt k es' i

-- what stands is what stood, and a place of a key
pub record IsWith (key place : ℕ) (es es' : List Entry) : Type 0 where
  pub more : (k i : ℕ) → StandsAt k es' i → StandsAt k es i ⊎ ((k ≡ key) × (i ≡ place))
  pub kept : (k i : ℕ) → StandsAt k es i → StandsAt k es' i
  pub here : StandsAt key es' place

-- where an entry becomes loose, all else stands as it did
pub without_place : (es es' : List Entry) (place key : ℕ) (p n : Option ℕ) → place < length es
    → es' ≡ set es place (Loose key p n) → IsWithout place es es'
without_place es es' place key p n l e =
    let Without : List Entry → Type 0 = λ xs. IsWithout place es xs in
    subst Without (sym e)
    record {
      fewer = λ k i h. elim (cases_eq i place) [
        | inl q ↦
            let there : StandsAt k (set es place (Loose key p n)) place =
            subst (λ (x : ℕ). StandsAt k (set es place (Loose key p n)) x) q h in
            let loose = get_or-set_same es place (Loose key p n) Bare l in
            absurd (cc)
        | inr a ↦ (sym (get_or-set_other es place i (Loose key p n) Bare a) ∙ h, a)
      ];
      kept = λ k i h a. get_or-set_other es place i (Loose key p n) Bare a ∙ h;
    }

-- where a loose entry becomes one that stands, all else stands as it did
pub with_place : (es es' : List Entry) (place key : ℕ) (p n : Option ℕ) → place < length es
    → entry_at es place ≡ Loose key p n → es' ≡ set es place (Standing key) → IsWith key place es es'
with_place es es' place key p n l loose e =
    let With : List Entry → Type 0 = λ xs. IsWith key place es xs in
    let here : StandsAt key (set es place (Standing key)) place = get_or-set_same es place (Standing key) Bare l in
    subst With (sym e)
    record {
      more = λ k i h. elim (cases_eq i place) [
        | inl q ↦ inr (key_unique (set es place (Standing key)) i place k key q h here, q)
        | inr a ↦ inl (sym (get_or-set_other es place i (Standing key) Bare a) ∙ h)
      ];
      kept = λ k i h.
          let a : i ≢ place = λ q. let there : StandsAt k es place = subst (λ (x : ℕ). StandsAt k es x) q h in cc in
          get_or-set_other es place i (Standing key) Bare a ∙ h;
      here = here;
    }

-- a stop where a place is taken out was one before
pub stop_fewer : (place : ℕ) (es es' : List Entry) (k : ℕ) (t : Option ℕ) → IsWithout place es es'
    → IsStop (StandsAt k es') t → IsStop (StandsAt k es) t
stop_fewer place es es' k None w h = tt
stop_fewer place es es' k (Some i) w h = (w.fewer k i h).0

-- a stop where a place is put back was one before, or is that place
pub stop_more : (key place : ℕ) (es es' : List Entry) (k : ℕ) (t : Option ℕ) → IsWith key place es es'
    → ((k ≡ key) × (t ≡ Some place) → ⊥) → IsStop (StandsAt k es') t → IsStop (StandsAt k es) t
stop_more key place es es' k None w n h = tt
stop_more key place es es' k (Some i) w n h =
    elim (w.more k i h) [ inl g ↦ g | inr e ↦ absurd (n (e.0, ap Some e.1)) ]
