-- Rings where a place is taken out or put back, one side at a time, and where the same stands.
use Rattle.std.proofs.Common.{◌≡◌, ℕ, ◌<◌, ◌⊎◌, inl, inr, List, Option, Some, length, refl, sym, subst, arith}
use Rattle.hp_chains.specs.declared.link.Link.{Link}
use Rattle.hp_chains.specs.declared.link.Sides.{Sides}
use Rattle.hp_chains.specs.Entries.{Entry, Reversed, StandsAt}
use Rattle.hp_chains.specs.Chained.{AreRings, IsBeside, IsBeyond, IsStop, TellsBeside, entries_of, sides_at}
use Rattle.hp_chains.proofs.NearestLemmas.{IsOrder, beside_before, beside_kept, beside_place, bridged, nearest_same, still_beside, stop_before, stop_beside, stop_same}
use Rattle.hp_chains.proofs.StandingLemmas.{IsWith, IsWithout, key_unique, stop_fewer, stop_more}
use Rattle.hp_chains.proofs.JoiningLemmas.{cases_at}

-- one side tells what is beside each stop where a place is taken out
pub taken_out_beside : (B : ℕ → ℕ → Type 0) → IsOrder B → (side : Sides → Option ℕ) (links : List Link)
    (heads : List Sides) (links' : List Link) (heads' : List Sides) (key place : ℕ) (p n : Option ℕ)
    → TellsBeside B side links heads → length heads' ≡ length heads → StandsAt key (entries_of links) place
    → IsBeside (Reversed B) (StandsAt key (entries_of links)) (Some place) p
    → IsBeside B (StandsAt key (entries_of links)) (Some place) n
    → IsWithout place (entries_of links) (entries_of links')
    → side (sides_at links' heads' key p) ≡ n
    → ((k : ℕ) (t : Option ℕ) → IsStop (StandsAt k (entries_of links')) t → ((k ≡ key) × (t ≡ p) → ⊥)
    → side (sides_at links' heads' k t) ≡ side (sides_at links heads k t))
    → TellsBeside B side links' heads'
taken_out_beside B o side links heads links' heads' key place p n tells count stood before behind w here rest k t l h =
    let es : List Entry = entries_of links in
    let es' : List Entry = entries_of links' in
    let l' : k < length heads = omega arith in
    let stop = stop_fewer place es es' k t w h in
    let Told : ℕ → Option ℕ → Option ℕ → Type 0 = λ k t x. IsBeside B (StandsAt k es') t x in
    elim (cases_at k key t p) [
      | inl e ↦
          subst (λ (x : ℕ). Told x t (side (sides_at links' heads' x t))) (sym e.0)
          (subst (λ (x : Option ℕ). Told key x (side (sides_at links' heads' key x))) (sym e.1)
          (subst (λ (x : Option ℕ). Told key p x) (sym here)
          (bridged B o (StandsAt key es) (StandsAt key es') place p n (w.fewer key) (w.kept key) before
          behind)))
      | inr other ↦
          let x : Option ℕ = side (sides_at links heads k t) in
          let told : IsBeside B (StandsAt k es) t x = tells k t l' stop in
          let apart : x ≡ Some place → ⊥ = λ e.
          let it : IsBeside B (StandsAt k es) t (Some place) =
          subst (λ (y : Option ℕ). IsBeside B (StandsAt k es) t y) e told in
          let same : k ≡ key = key_unique es place place k key refl it.1 stood in
          other (
            same,
            stop_beside B o (StandsAt k es) place t p stop it
                (subst (λ (x : ℕ). IsBeside (Reversed B) (StandsAt x es) (Some place) p) (sym same) before),
          ) in
          subst (λ (y : Option ℕ). Told k t y) (sym (rest k t h other))
          (still_beside B o (StandsAt k es) (StandsAt k es') place t x (λ i g. (w.fewer k i g).0)
          (w.kept k) apart told)
    ]

-- one side tells what is beside each stop where a place is put back
pub put_back_beside : (B : ℕ → ℕ → Type 0) → IsOrder B → (side : Sides → Option ℕ) (links : List Link)
    (heads : List Sides) (links' : List Link) (heads' : List Sides) (key place : ℕ) (p n : Option ℕ)
    → TellsBeside B side links heads → length heads' ≡ length heads
    → IsBeside (Reversed B) (StandsAt key (entries_of links)) (Some place) p
    → IsBeside B (StandsAt key (entries_of links)) (Some place) n
    → IsWith key place (entries_of links) (entries_of links')
    → side (sides_at links' heads' key p) ≡ Some place
    → side (sides_at links' heads' key (Some place)) ≡ n
    → ((k : ℕ) (t : Option ℕ) → IsStop (StandsAt k (entries_of links)) t → ((k ≡ key) × (t ≡ p) → ⊥)
    → ((k ≡ key) × (t ≡ Some place) → ⊥) → side (sides_at links' heads' k t) ≡ side (sides_at links heads k t))
    → TellsBeside B side links' heads'
put_back_beside B o side links heads links' heads' key place p n tells count before behind plus to from rest k t l h =
    let es : List Entry = entries_of links in
    let es' : List Entry = entries_of links' in
    let l' : k < length heads = omega arith in
    let Told : ℕ → Option ℕ → Option ℕ → Type 0 = λ k t x. IsBeside B (StandsAt k es') t x in
    let at : (q x : Option ℕ) → (k ≡ key) × (t ≡ q) → side (sides_at links' heads' key q) ≡ x → Told key q x
    → Told k t (side (sides_at links' heads' k t)) = λ q x e read told.
    subst (λ (y : ℕ). Told y t (side (sides_at links' heads' y t))) (sym e.0)
    (subst (λ (y : Option ℕ). Told key y (side (sides_at links' heads' key y))) (sym e.1)
    (subst (λ (y : Option ℕ). Told key q y) (sym read) told)) in
    let more : (k i : ℕ) → StandsAt k es' i → StandsAt k es i ⊎ (i ≡ place) = λ k i g.
    elim (plus.more k i g) [ inl f ↦ inl f | inr e ↦ inr e.1 ] in
    elim (cases_at k key t p) [
      | inl e ↦
          at p (Some place) e to
          (beside_before B o (StandsAt key es) (StandsAt key es') place p (more key) plus.here before)
      | inr other ↦ elim (cases_at k key t (Some place)) [
        | inl e ↦
            at (Some place) n e from
            (beside_place B o (StandsAt key es) (StandsAt key es') place n (more key) (plus.kept key) behind)
        | inr apart ↦
            let x : Option ℕ = side (sides_at links heads k t) in
            let stop = stop_more key place es es' k t plus apart h in
            let told : IsBeside B (StandsAt k es) t x = tells k t l' stop in
            subst (λ (y : Option ℕ). Told k t y) (sym (rest k t stop other apart))
            (beside_kept B o (StandsAt k es) (StandsAt k es') place t x (more k) (plus.kept k)
            (λ beyond free it.
            let same : k ≡ key = key_unique es' place place k key refl it plus.here in
            other (
              same,
              stop_before B o (StandsAt k es) place t p stop beyond free
                  (subst (λ (x : ℕ). IsBeside (Reversed B) (StandsAt x es) (Some place) p) (sym same) before),
            ))
            told)
      ]
    ]

-- rings stay rings where the same stands with the same sides
module _ (links : List Link) (heads : List Sides) (links' : List Link)
    (there : (k i : ℕ) → StandsAt k (entries_of links) i → StandsAt k (entries_of links') i)
    (back : (k i : ℕ) → StandsAt k (entries_of links') i → StandsAt k (entries_of links) i)
    (same : (k : ℕ) (t : Option ℕ) → IsStop (StandsAt k (entries_of links)) t
    → sides_at links' heads k t ≡ sides_at links heads k t) where
  tells_same : (B : ℕ → ℕ → Type 0) (side : Sides → Option ℕ) → TellsBeside B side links heads
      → TellsBeside B side links' heads
  tells_same B side h k t l stop =
      let S : ℕ → Type 0 = StandsAt k (entries_of links) in
      let T : ℕ → Type 0 = StandsAt k (entries_of links') in
      let was = stop_same T S t (back k) stop in
      subst (λ (s : Sides). IsBeside B T t (side s)) (sym (same k t was))
      (nearest_same B (IsBeyond B t) S T (side (sides_at links heads k t)) (λ i m. there k i) (λ i m. back k i)
      (h k t l was))

  pub rings_same : AreRings links heads → AreRings links' heads
  rings_same h = record {
    next = tells_same ◌<◌ (λ s. s.next) h.next;
    previous = tells_same (Reversed ◌<◌) (λ s. s.previous) h.previous;
    keys = λ k i stood. h.keys k i (back k i stood);
  }
