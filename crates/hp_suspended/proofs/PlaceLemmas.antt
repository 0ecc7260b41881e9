-- The events of a goal by the atoms of places.
use Rattle.std.proofs.Common.{◌≡◌, ℕ, ◌+◌, ◌<◌, ◌≤◌, [], ◌++◌, length, drop, slice_get, Option, Some, None, refl, sym, ap, ap₂, ◌∙◌}
use Rattle.hp_syntax.specs.Terms.{Term}
use Rattle.hp_syntax.specs.Values.{Bindings}
use Rattle.hp_syntax.specs.Goals.{Goal, match_goal}
use Rattle.hp_syntax.specs.Events.{state_events}
use Rattle.hp_eval.specs.declared.goals.Goal as public
use Rattle.hp_eval.specs.GoalViews.{term_at, goal_of, GoalBelow}
use Rattle.hp_eval.specs.Growth.{Grows}
use Rattle.hp_eval.specs.Slotted.{Slotted, AreBelow, bindings_of}
use Rattle.hp_eval.proofs.GoalViewLemmas.{goal_stays}
use Rattle.hp_eval.proofs.GrowthLemmas.{bindings_stay, terms_stay}
use Rattle.hp_world.specs.Stages.{AllBelow, live_atoms, terms_at}
use Rattle.hp_suspended.specs.Filtered.{sats_from}
use Rattle.hp_suspended.specs.Settings.{Setting, places_from}
use Rattle.hp_suspended.specs.PlaceSteps.{place_events, MatchesAt}
use Rattle.hp_suspended.proofs.CountLemmas.{later_atoms_below}
use Rattle.hp_suspended.proofs.SatPlaces.{GivesNone, sats_end, sats_next, sats_none}

module _ (w : Setting) (q : Goal) (e : Bindings) where
  -- what a goal meets by an atom
  abbrev found : Term → Option Bindings
  found t = match_goal q t e

  -- the events of a goal are its satisfiers by the atoms of the places
  places_are : (from : ℕ) → places_from w from q e ≡ sats_from w from found
  unfolding places_from sats_from
  places_are from = refl

  -- a place without an atom that a goal matches gives it no events
  none_given : (i : ℕ) → (MatchesAt w.terms q w.places i → ⊥) → GivesNone w found i
  none_given i not = λ atom stands. by atom stands (match_goal q (term_at w.terms atom) e) refl
    where
      by : (atom : ℕ) → slice_get w.places i ≡ Some (Some atom) → (o : Option Bindings)
          → match_goal q (term_at w.terms atom) e ≡ o → o ≡ None
      by atom stands None is = refl
      by atom stands (Some b) is =
          absurd (not (record { atom = atom; before = e; after = b; stands = stands; matches = is }))

  -- behind the last place a goal has no events
  pub places_end : (from : ℕ) → length w.places ≤ from → places_from w from q e ≡ []
  places_end from l = places_are from ∙ sats_end w found from l

  -- where a goal matches no atom from a place on it has no events from there on
  pub places_none : (from : ℕ) → ((j : ℕ) → from ≤ j → MatchesAt w.terms q w.places j → ⊥)
      → places_from w from q e ≡ []
  places_none from not = places_are from ∙ sats_none w found from (λ j l. none_given j (not j l))

  -- the events of a goal from a place on begin with those at the next one with an atom that it matches
  pub places_next : (from i atom : ℕ) → from ≤ i
      → ((j : ℕ) → from ≤ j → j < i → MatchesAt w.terms q w.places j → ⊥) → slice_get w.places i ≡ Some (Some atom)
      → places_from w from q e ≡ place_events w.terms q e (Some atom) ++ places_from w (i + 1) q e
  places_next from i atom l not h =
      places_are from
      ∙ (sats_next w found from i atom l (λ j k m. none_given j (not j k m)) h
      ∙ ap (λ xs. place_events w.terms q e (Some atom) ++ xs) (sym (places_are (i + 1))))

-- ---- terms that are added

-- the events of a goal by places stay where terms are added
pub places_stay : (v w : Setting) (q : public.Goal) (at' : ℕ) (s : Slotted) → Grows v.terms w.terms
    → w.places ≡ v.places → AllBelow (length v.terms) (live_atoms v.places) → GoalBelow (length v.terms) q
    → AreBelow (length v.terms) s
    → places_from w at' (goal_of w.terms q) (bindings_of w.terms s)
    ≡ places_from v at' (goal_of v.terms q) (bindings_of v.terms s)
unfolding places_from
places_stay v w q at' s g same atoms goal slots =
    ap (λ ps. state_events (terms_at w.terms (live_atoms (drop at' ps))) (goal_of w.terms q) (bindings_of w.terms s))
    same
    ∙ ap (λ ts. state_events ts (goal_of w.terms q) (bindings_of w.terms s))
    (terms_stay v.terms w.terms g (live_atoms (drop at' v.places)) (later_atoms_below (length v.terms) at' v.places atoms))
    ∙ ap₂ (state_events (terms_at v.terms (live_atoms (drop at' v.places)))) (goal_stays v.terms w.terms g q goal)
    (bindings_stay v.terms w.terms g s slots)
