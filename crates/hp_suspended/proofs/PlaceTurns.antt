-- Turns at the places of a goal.
use Rattle.std.proofs.Common.{◌≡◌, ℕ, ◌+◌, List, [], ◌∷◌, ◌++◌, length, slice_get, Option, Some, None, sym, ap, ◌∙◌, arith}
use Rattle.hp_syntax.specs.Events as plain
use Rattle.hp_eval.specs.declared.event.Event.{Event}
use Rattle.hp_eval.specs.declared.goals.Goal.{Goal}
use Rattle.hp_eval.specs.GoalViews.{goal_of, GoalBelow}
use Rattle.hp_eval.specs.Growth.{Grows}
use Rattle.hp_eval.specs.Slotted.{Slotted, AreBelow, bindings_of}
use Rattle.hp_eval.proofs.GrowthLemmas.{bindings_stay}
use Rattle.hp_world.specs.Stages.{AllBelow, live_atoms}
use Rattle.hp_suspended.specs.Settings.{Setting, places_from}
use Rattle.hp_suspended.specs.PlaceSteps.{place_events, IsNextPlace, IsNextPlaceAt, BeginsWith, TurnsPlaces}
use Rattle.hp_suspended.proofs.PlaceLemmas.{places_end, places_none, places_next, places_stay}

module _ (v w : Setting) (q : Goal) (grows : Grows v.terms w.terms) (same : w.places ≡ v.places)
    (atoms : AllBelow (length v.terms) (live_atoms v.places)) (goal : GoalBelow (length v.terms) q) (old : Slotted)
    (slots : AreBelow (length v.terms) old) where
  stays : (at' : ℕ) → places_from w at' (goal_of w.terms q) (bindings_of w.terms old)
      ≡ places_from v at' (goal_of v.terms q) (bindings_of v.terms old)
  stays at' = places_stay v w q at' old grows same atoms goal slots

  -- where a goal matches no atom from a place on, a turn goes to the end
  pub turn_ended : (at' : ℕ) → IsNextPlace v.terms (goal_of v.terms q) v.places at' None
      → TurnsPlaces None w q at' (length v.places) old old
  turn_ended at' none =
      stays at'
      ∙ (places_none v (goal_of v.terms q) (bindings_of v.terms old) at' none
      ∙ sym (places_end v (goal_of v.terms q) (bindings_of v.terms old) (length v.places) (omega arith))
      ∙ sym (stays (length v.places)))

  -- a turn goes behind the next place with an atom that a goal may match, and has the event there
  pub turn_taken : (result : Option Event) (at' place : ℕ) (new : Slotted) → AreBelow (length v.terms) new
      → IsNextPlaceAt v.terms (goal_of v.terms q) v.places at' place
      → ((held : Option ℕ) → slice_get v.places place ≡ Some held
      → BeginsWith result (place_events v.terms (goal_of v.terms q) (bindings_of v.terms old) held)
      (bindings_of v.terms new) [])
      → TurnsPlaces result w q at' (place + 1) old new
  turn_taken result at' place new below next gives = by result (gives (Some next.atom) next.stands)
    where
      here : List plain.Event
      here = place_events v.terms (goal_of v.terms q) (bindings_of v.terms old) (Some next.atom)

      left : List plain.Event
      left = places_from w (place + 1) (goal_of w.terms q) (bindings_of w.terms old)

      split : places_from w at' (goal_of w.terms q) (bindings_of w.terms old) ≡ here ++ left
      split =
          stays at'
          ∙ (places_next v (goal_of v.terms q) (bindings_of v.terms old) at' place next.atom next.later
          next.passed next.stands
          ∙ ap (λ xs. here ++ xs) (sym (stays (place + 1))))

      by : (r : Option Event) → BeginsWith r here (bindings_of v.terms new) []
          → TurnsPlaces r w q at' (place + 1) old new
      by None h = split ∙ ap (λ xs. xs ++ left) h
      by (Some event) h =
          split
          ∙ (ap (λ xs. xs ++ left) h
          ∙ ap (λ b. plain.Sat b ∷ left) (sym (bindings_stay v.terms w.terms grows new below)))
