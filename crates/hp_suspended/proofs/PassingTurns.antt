-- Turns at the places of an atom that isn't filled.
use Rattle.std.proofs.Common.{◌≡◌, ℕ, ◌+◌, List, [], ◌∷◌, ◌++◌, length, slice_get, Bool, true, false, Option, Some, None, refl, sym, ap, ap₂, ◌∙◌, arith}
use Rattle.std.specs.Prelude.{cond}
use Rattle.hp_syntax.specs.Syntax.{Atom}
use Rattle.hp_syntax.specs.Terms.{Term}
use Rattle.hp_syntax.specs.Values.{Bindings}
use Rattle.hp_syntax.specs.Matching.{match_atom}
use Rattle.hp_syntax.specs.Events as plain
use Rattle.hp_syntax.specs.Events.{sat_if}
use Rattle.hp_eval.specs.declared.event.Event.{Event}
use Rattle.hp_eval.specs.GoalViews.{term_at}
use Rattle.hp_eval.specs.Growth.{Grows}
use Rattle.hp_eval.specs.Slotted.{Slotted, AreBelow, bindings_of}
use Rattle.hp_eval.proofs.GrowthLemmas.{bindings_stay, kept_agree}
use Rattle.hp_world.specs.Named.{IsNextAt}
use Rattle.hp_world.specs.Stages.{AllBelow, live_atoms}
use Rattle.hp_suspended.specs.declared.places.AtomFilter.{AtomFilter}
use Rattle.hp_suspended.specs.Filtered.{FilterBelow, match_passing, passes, sats_from}
use Rattle.hp_suspended.specs.PlaceSteps.{BeginsWith}
use Rattle.hp_suspended.specs.Settings.{Setting}
use Rattle.hp_suspended.specs.SimpleAtoms.{PassesAt, TurnsPassing}
use Rattle.hp_suspended.proofs.CellsAgree.{over, passing_agrees, sats_agree}
use Rattle.hp_suspended.proofs.SatPlaces.{GivesNone, sats_end, sats_next, sats_none}

-- among those that pass a filter an atom is matched
among_passing : (p : Bool) (o : Option Bindings) → p ≡ true → cond p o None ≡ o
among_passing p o h = ap (λ q. cond q o None) h

-- and among the others it isn't
among_others : (p : Bool) (o : Option Bindings) → (p ≡ true → Option Bindings → ⊥) → cond p o None ≡ None
among_others true o h = absurd (h refl o)
among_others false o h = refl

module _ (v : Setting) (more : List Term) (a : Atom) (f : AtomFilter) (grows : Grows v.terms more)
    (atoms : AllBelow (length v.terms) (live_atoms v.places)) (filter : FilterBelow (length v.terms) f) (old : Slotted)
    (slots : AreBelow (length v.terms) old) where
  -- what is matched under the bindings of slots, among the terms of a setting
  abbrev found_in : Setting → Term → Option Bindings
  found_in w t = match_passing w.terms f a t (bindings_of w.terms old)

  stays : (from : ℕ) → sats_from (over v more) from (found_in (over v more)) ≡ sats_from v from (found_in v)
  stays from =
      let same = kept_agree v.terms more grows (length v.terms) (omega arith) in
      ap (λ b. sats_from (over v more) from (λ t. match_passing more f a t b)) (bindings_stay v.terms more grows old slots)
      ∙ sym (sats_agree v more (length v.terms) same atoms from (found_in v)
      ∙ ap (sats_from (over v more) from)
      (passing_agrees v more (length v.terms) same atoms f filter a (bindings_of v.terms old)))

  -- a place at which no atom passes gives nothing
  none_passing : (i : ℕ) → (PassesAt v.terms f v.places i → ⊥) → GivesNone v (found_in v) i
  none_passing i not = λ atom stands.
      among_others (passes v.terms f (term_at v.terms atom))
      (match_atom a (term_at v.terms atom) (bindings_of v.terms old))
      (λ h o. not (record { atom = atom; stands = stands; passes = h }))

  -- where no atom passes from a place on, a turn goes to the end
  pub turn_ended : (from : ℕ) → IsNextAt (PassesAt v.terms f v.places) from None
      → TurnsPassing None (over v more) a f from (length v.places) old old
  turn_ended from none =
      stays from
      ∙ (sats_none v (found_in v) from (λ j l. none_passing j (none j l))
      ∙ (sym (sats_end v (found_in v) (length v.places) (omega arith))
      ∙ sym (stays (length v.places))))

  -- a turn goes behind the next place with an atom that passes, and has the event there
  pub turn_taken : (result : Option Event) (from place : ℕ) (new : Slotted) → AreBelow (length v.terms) new
      → IsNextAt (PassesAt v.terms f v.places) from (Some place)
      → ((held : ℕ) → slice_get v.places place ≡ Some (Some held)
      → BeginsWith result (sat_if (match_atom a (term_at v.terms held) (bindings_of v.terms old)))
      (bindings_of v.terms new) [])
      → TurnsPassing result (over v more) a f from (place + 1) old new
  turn_taken result from place new below next gives = by result (gives next.1.atom next.1.stands)
    where
      here : List plain.Event
      here = sat_if (match_atom a (term_at v.terms next.1.atom) (bindings_of v.terms old))

      left : List plain.Event
      left = sats_from (over v more) (place + 1) (found_in (over v more))

      passed : sat_if (found_in v (term_at v.terms next.1.atom)) ≡ here
      passed =
          ap sat_if (among_passing (passes v.terms f (term_at v.terms next.1.atom))
          (match_atom a (term_at v.terms next.1.atom) (bindings_of v.terms old)) next.1.passes)

      split : sats_from (over v more) from (found_in (over v more)) ≡ here ++ left
      split =
          stays from
          ∙ (sats_next v (found_in v) from place next.1.atom next.0 (λ j l m. none_passing j (next.2 j l m))
          next.1.stands
          ∙ ap₂ ◌++◌ passed (sym (stays (place + 1))))

      by : (r : Option Event) → BeginsWith r here (bindings_of v.terms new) []
          → TurnsPassing r (over v more) a f from (place + 1) old new
      by None h = split ∙ ap (λ xs. xs ++ left) h
      by (Some event) h =
          split
          ∙ (ap (λ xs. xs ++ left) h
          ∙ ap (λ b. plain.Sat b ∷ left) (sym (bindings_stay v.terms more grows new below)))

-- a turn behind others that gave nothing
pub turns_on : (result : Option Event) (w : Setting) (a : Atom) (f : AtomFilter) (from mid behind : ℕ)
    (old new : Slotted) → TurnsPassing None w a f from mid old old → TurnsPassing result w a f mid behind old new
    → TurnsPassing result w a f from behind old new
turns_on None w a f from mid behind old new first second = first ∙ second
turns_on (Some event) w a f from mid behind old new first second = first ∙ second
