-- What is left where a place was taken out, and that it may be put back.
use Rattle.std.proofs.Common.{◌≡◌, ◌∙◌, ℕ, ◌<◌, ◌⊎◌, inl, inr, List, Option, length, take, set, refl, sym, ap, subst}
use Rattle.std.proofs.lemmas.List.{get_or-set_same, length-set, set-get_or, set-set, take-set}
use Rattle.hp_chains.specs.Entries.{Bare, Entry, FitsBack, IsTakenOut, Loose, MayReturn, Standing, StandsAt, entry_at, returned, standing_again}
use Rattle.hp_chains.proofs.StandingLemmas.{neighbours_same, stands_within, IsWithout, without_place}

-- a place is taken out, or nothing changes
pub taken_out_cases : (place : ℕ) (es rest : List Entry) → IsTakenOut place es rest
    → ((key : ℕ) × (p n : Option ℕ) × (rest ≡ set es place (Loose key p n)))
    ⊎ ((rest ≡ es) × ((k : ℕ) → StandsAt k es place → ⊥))
taken_out_cases place es rest h = by (entry_at es place) refl
  where
    by : (e : Entry) → entry_at es place ≡ e
        → ((key : ℕ) × (p n : Option ℕ) × (rest ≡ set es place (Loose key p n)))
        ⊎ ((rest ≡ es) × ((k : ℕ) → StandsAt k es place → ⊥))
    by Bare e = inr (h.other (λ k s. cc), λ k s. cc)
    by (Standing key) e = let w = h.standing key e in inl (key, w.0, w.1, w.3)
    by (Loose key p n) e = inr (h.other (λ k s. cc), λ k s. cc)

-- a place that was taken out doesn't stand
pub taken_out_free : (place : ℕ) (es rest : List Entry) → IsTakenOut place es rest → place < length es → (k : ℕ)
    → StandsAt k rest place → ⊥
taken_out_free place es rest h l k stood =
    elim (taken_out_cases place es rest h) [
      | inl w ↦
          let s = subst (λ (xs : List Entry). StandsAt k xs place) w.3 stood in
          let loose = get_or-set_same es place (Loose w.0 w.1 w.2) Bare l in
          cc
      | inr w ↦ w.1 k (subst (λ (xs : List Entry). StandsAt k xs place) w.0 stood)
    ]

-- where a place is taken out, no place is lost
pub taken_out_length : (place : ℕ) (es rest : List Entry) → IsTakenOut place es rest → length rest ≡ length es
taken_out_length place es rest h =
    elim (taken_out_cases place es rest h) [
      | inl w ↦ ap length w.3 ∙ length-set es place (Loose w.0 w.1 w.2)
      | inr w ↦ ap length w.0
    ]

-- where a place is taken out, the places before it are as they were
pub taken_out_before : (place : ℕ) (es rest : List Entry) → IsTakenOut place es rest → take place rest ≡ take place es
taken_out_before place es rest h =
    elim (taken_out_cases place es rest h) [
      | inl w ↦ ap (λ (xs : List Entry). take place xs) w.3 ∙ take-set es place (Loose w.0 w.1 w.2)
      | inr w ↦ ap (λ (xs : List Entry). take place xs) w.0
    ]

-- a place that was taken out may be put back
pub taken_out_fits : (keys place key : ℕ) (es rest : List Entry) → IsTakenOut place es rest → StandsAt key es place
    → key < keys → FitsBack keys rest place
taken_out_fits keys place key es rest h stood l =
    let w = h.standing key stood in
    let loose : Entry = Loose key w.0 w.1 in
    let within : place < length es = stands_within es place key stood in
    let without : IsWithout place es rest = without_place es rest place key w.0 w.1 within w.3 in
    let at : entry_at rest place ≡ loose =
    ap (λ (xs : List Entry). entry_at xs place) w.3 ∙ get_or-set_same es place loose Bare within in
    let near =
    neighbours_same key place es rest w.0 w.1 (λ i a s. without.kept key i s a) (λ i a s. (without.fewer key i s).0)
    w.2 in
    subst (λ (e : Entry). MayReturn keys rest place e) (sym at) (l, near)

-- what is put back is as it was before it was taken out
pub taken_out_restored : (place key : ℕ) (es rest : List Entry) → IsTakenOut place es rest → StandsAt key es place
    → returned rest place ≡ es
taken_out_restored place key es rest h stood =
    let w = h.standing key stood in
    let loose : Entry = Loose key w.0 w.1 in
    let within : place < length es = stands_within es place key stood in
    let same : set es place (Standing key) ≡ es =
    ap (λ (e : Entry). set es place e) (sym stood) ∙ set-get_or es place Bare in
    ap (λ (xs : List Entry). returned xs place) w.3
    ∙ ap (λ (e : Entry). set (set es place loose) place (standing_again e)) (get_or-set_same es place loose Bare within)
    ∙ set-set es place loose (Standing key) ∙ same
