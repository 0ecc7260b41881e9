-- The satisfiers that the atoms of places give.
use Rattle.std.proofs.Common.{◌≡◌, ℕ, zero, suc, ◌+◌, ◌-◌, ◌<◌, ◌≤◌, inl, inr, List, [], ◌∷◌, ◌++◌, length, drop, slice_get, Option, Some, None, refl, sym, ap, ◌∙◌, arith}
use Rattle.std.specs.Prelude.{flat_map}
use Rattle.std.proofs.lemmas.Bool.{cases_lt}
use Rattle.std.proofs.lemmas.List.{drop_all}
use Rattle.hp_syntax.specs.Terms.{Term}
use Rattle.hp_syntax.specs.Values.{Bindings}
use Rattle.hp_syntax.specs.Events.{Event, sat_if}
use Rattle.hp_eval.specs.GoalViews.{term_at}
use Rattle.hp_eval.proofs.Loops.{left_at}
use Rattle.hp_world.specs.Stages.{live_atoms, terms_at}
use Rattle.hp_suspended.specs.Filtered.{sats_from}
use Rattle.hp_suspended.specs.Settings.{Setting}

-- the satisfier that the atom of a place gives, if one stands there
abbrev pub place_sats : List Term → (Term → Option Bindings) → Option ℕ → List Event
place_sats terms found None = []
place_sats terms found (Some atom) = sat_if (found (term_at terms atom))

-- the satisfiers by places are that at the first and those by the others
first_place : (terms : List Term) (found : Term → Option Bindings) (held : Option ℕ) (places : List (Option ℕ))
    → flat_map (λ t. sat_if (found t)) (terms_at terms (live_atoms (held ∷ places)))
    ≡ place_sats terms found held ++ flat_map (λ t. sat_if (found t)) (terms_at terms (live_atoms places))
first_place terms found None places = refl
first_place terms found (Some a) places = refl

-- what stands at a place that is there
place_there : (places : List (Option ℕ)) (i : ℕ) → i < length places
    → (held : Option ℕ) × (slice_get places i ≡ Some held)
place_there [] i l = absurd (omega arith)
place_there (p ∷ ps) zero l = (p, refl)
place_there (p ∷ ps) (suc i) l = place_there ps i (omega arith)

module _ (w : Setting) (found : Term → Option Bindings) where
  -- the atom of a place, if one stands there, gives nothing
  abbrev pub GivesNone : ℕ → Type 0
  GivesNone i = (atom : ℕ) → slice_get w.places i ≡ Some (Some atom) → found (term_at w.terms atom) ≡ None

  -- behind the last place there is nothing
  pub sats_end : (from : ℕ) → length w.places ≤ from → sats_from w from found ≡ []
  unfolding sats_from
  sats_end from l =
      ap (λ ps. flat_map (λ t. sat_if (found t)) (terms_at w.terms (live_atoms ps))) (drop_all from w.places l)

  -- the satisfiers from a place on are that at the place and those from the next place on
  sats_step : (i : ℕ) (held : Option ℕ) → slice_get w.places i ≡ Some held
      → sats_from w i found ≡ place_sats w.terms found held ++ sats_from w (i + 1) found
  unfolding sats_from
  sats_step i held h =
      ap (λ ps. flat_map (λ t. sat_if (found t)) (terms_at w.terms (live_atoms ps))) (left_at w.places i held h)
      ∙ first_place w.terms found held (drop (i + 1) w.places)

  none_given : (i : ℕ) (held : Option ℕ) → slice_get w.places i ≡ Some held → GivesNone i
      → place_sats w.terms found held ≡ []
  none_given i None h none = refl
  none_given i (Some atom) h none = ap sat_if (none atom h)

  -- a place whose atom gives nothing may be passed over
  one_passed : (i : ℕ) → GivesNone i → sats_from w i found ≡ sats_from w (i + 1) found
  one_passed i none = elim (cases_lt i (length w.places)) [
    | inl within ↦
        let p = place_there w.places i within in
        sats_step i p.0 p.1 ∙ ap (λ xs. xs ++ sats_from w (i + 1) found) (none_given i p.0 p.1 none)
    | inr past ↦ sats_end i past ∙ sym (sats_end (i + 1) (omega (arith, past)))
  ]

  all_passed : (n from i : ℕ) → from + n ≡ i → ((j : ℕ) → from ≤ j → j < i → GivesNone j)
      → sats_from w from found ≡ sats_from w i found
  all_passed zero from i h none = ap (λ k. sats_from w k found) (omega (arith, h))
  all_passed (suc n) from i h none =
      one_passed from (none from (omega arith) (omega (arith, h)))
      ∙ all_passed n (from + 1) i (omega (arith, h)) (λ j l m. none j (omega (arith, l)) m)

  -- where no atom from a place on gives anything there is nothing from there on
  pub sats_none : (from : ℕ) → ((j : ℕ) → from ≤ j → GivesNone j) → sats_from w from found ≡ []
  sats_none from none =
      all_passed (length w.places) from (from + length w.places) refl (λ j l m. none j l)
      ∙ sats_end (from + length w.places) (omega arith)

  -- the satisfiers from a place on are that at a later one and those behind it, where no atom between gives anything
  pub sats_next : (from i atom : ℕ) → from ≤ i → ((j : ℕ) → from ≤ j → j < i → GivesNone j)
      → slice_get w.places i ≡ Some (Some atom)
      → sats_from w from found ≡ sat_if (found (term_at w.terms atom)) ++ sats_from w (i + 1) found
  sats_next from i atom l none h =
      all_passed (i - from) from i (omega (arith, l)) none ∙ sats_step i (Some atom) h
