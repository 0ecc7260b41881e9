-- An atom that isn't filled: an event by its places, and what is begun behind them.
use Rattle.std.proofs.Common.{◌≡◌, ℕ, ◌≤◌, List, ◌∷◌, ◌++◌, length, Option, Some, None, arith, refl, sym, ap, subst, ◌∙◌}
use Rattle.hp_syntax.specs.Syntax.{Atom}
use Rattle.hp_syntax.specs.Terms.{Term}
use Rattle.hp_syntax.specs.Values.{Bindings}
use Rattle.hp_syntax.specs.Goals.{fill_goal}
use Rattle.hp_syntax.specs.Events.{Event, Sat}
use Rattle.hp_eval.specs.declared.event.Event as public_event
use Rattle.hp_eval.specs.declared.event.Event.TheVariants as events
use Rattle.hp_eval.specs.Growth.{Grows}
use Rattle.hp_eval.specs.Slotted.{Slotted, AreBelow, Binds, undone, bindings_of}
use Rattle.hp_eval.proofs.GrowthLemmas.{grows_on, grows_self}
use Rattle.hp_suspended.specs.declared.scene.Scene.{Scene}
use Rattle.hp_suspended.specs.declared.suspended.SimpleAtom.{SimpleAtom}
use Rattle.hp_suspended.specs.Answering.{GivesOver, Keeps, Moves}
use Rattle.hp_suspended.specs.Beginning.{IsBegunAs}
use Rattle.hp_suspended.specs.Filtered.{atom_left, by_axioms, match_passing, sats_from}
use Rattle.hp_suspended.specs.Fitting.{Fits}
use Rattle.hp_suspended.specs.Left.{left, stood}
use Rattle.hp_suspended.specs.Nodes.{atom_at}
use Rattle.hp_suspended.specs.PlaceSteps.{Bound}
use Rattle.hp_suspended.specs.SceneViews.{code_in, setting_of}
use Rattle.hp_suspended.specs.Settings.{Setting}
use Rattle.hp_suspended.specs.SimpleAtoms.{IsBehindPlaces, TurnsPassing}
use Rattle.hp_suspended.specs.Views.{Simple, View}
use Rattle.hp_suspended.proofs.CallLemmas.{moved_above, moved_same, moves_grown, moves_undone}
use Rattle.hp_suspended.proofs.OneSteps.{length-undone}
use Rattle.hp_suspended.proofs.SatPlaces.{sats_end}
use Rattle.hp_eval.proofs.SlotLemmas.{binds_self}

-- an atom at a place behind others
abbrev pub moved_to : SimpleAtom → ℕ → SimpleAtom
moved_to a from = record a { from = from }

module _ (s : Scene) (x : SimpleAtom) (a : Atom) (at' : atom_at (code_in s) x.node ≡ Some a) (old : List Term)
    (e u : Slotted) (fits : Fits (code_in s) (length old) (length e.trail) (Simple x)) (undo : u ≡ undone x.mark e)
  where
    -- what is left of it, under some bindings
    abbrev rest : Setting → ℕ → Bindings → List Event
    rest w from b =
        sats_from w from (λ t. match_passing w.terms x.filter a t b) ++ by_axioms w x.nest a (fill_goal a b) b

    left_is : (terms : List Term) (from : ℕ) (f : Slotted)
        → left (setting_of s terms) f (Simple (moved_to x from))
        ≡ rest (setting_of s terms) from (stood (setting_of s terms) f x.mark)
    left_is terms from f =
        let w = setting_of s terms in
        ap (λ o. atom_left w x.nest from x.filter o (stood w f x.mark)) at'

    module _ (f : Slotted) (o : Option public_event.Event) (bound : Bound o u f) (below : AreBelow (length old) f) where
      scan_binds : (r : Option public_event.Event) → Bound r u f → Binds (undone x.mark e) f
      scan_binds None h = subst (λ c. Binds c f) undo (subst (Binds u) (sym h) (binds_self u))
      scan_binds (Some y) h = subst (λ c. Binds c f) undo h.1

      -- a call for an event by places makes bindings above the mark
      pub scan_moves : Moves x.mark old old e f
      scan_moves = record { grows = grows_self old; below = below; above = scan_binds o bound }

      -- the bindings of the start stand at the mark behind it
      start_stands : (terms : List Term) → bindings_of terms u ≡ bindings_of terms (undone x.mark f)
      start_stands terms = ap (bindings_of terms) (undo ∙ sym (moved_same x.mark old old e f fits.0 scan_moves))

      module _ (from : ℕ)
          (turn : (terms : List Term) → Grows old terms → TurnsPassing o (setting_of s terms) a x.filter x.from from u f)
        where
          some_sat : (r : Option public_event.Event) (y : public_event.Event) → r ≡ Some y → Bound r u f
              → ((terms : List Term) → Grows old terms
              → TurnsPassing r (setting_of s terms) a x.filter x.from from u f)
              → GivesOver s old f events.Sat (λ w. left w e (Simple x)) (λ w. left w f (Simple (moved_to x from)))
          some_sat None y is h t = absurd cc
          some_sat (Some z) y is h t = λ terms grows.
              let w = setting_of s terms in
              let b = bindings_of terms u in
              left_is terms x.from e
              ∙ (ap (rest w x.from) (ap (bindings_of terms) (sym undo))
              ∙ (ap (λ xs. xs ++ by_axioms w x.nest a (fill_goal a b) b) (t terms grows)
              ∙ ap (λ xs. Sat (bindings_of terms f) ∷ xs)
              (ap (rest w from) (start_stands terms) ∙ sym (left_is terms from f))))

          -- its event is the first of what is left
          pub scan_gives : (y : public_event.Event) → o ≡ Some y → y ≡ events.Sat → (v : View)
              → v ≡ Simple (moved_to x from)
              → GivesOver s old f y (λ w. left w e (Simple x)) (λ w. left w f v)
          scan_gives y is sat v made = rw (sat, made) (some_sat o y is bound turn)

          -- and the atom is kept
          pub scan_keeps : (v : View) → v ≡ Simple (moved_to x from)
              → Keeps (code_in s) (length old) f (Simple x) v
          scan_keeps v made = rw made (record {
            start = refl;
            fits = (moved_above x.mark old old e f fits.0 scan_moves, fits.1, fits.2);
            lighter = omega arith;
          })

    -- where there is none, what is begun behind the places is left
    pub scan_begins : (from : ℕ)
        → ((terms : List Term) → Grows old terms → TurnsPassing None (setting_of s terms) a x.filter x.from from u u)
        → length s.world.now.places ≤ from → (new : List Term) → Grows old new → (v : View)
        → IsBehindPlaces s new u x.mark x.nest a v → IsBegunAs s new e u (Simple x) v
    scan_begins from turn over new grown v h = record {
      begun = h.begun;
      start = h.start;
      fits =
          subst (λ n. Fits (code_in s) (length new) n v)
          (sym (ap (λ (c : Slotted). length c.trail) undo ∙ length-undone x.mark e fits.0)) h.fits;
      same =
          λ terms grows.
          let w = setting_of s terms in
          let b = bindings_of terms u in
          let found = λ (t : Term). match_passing terms x.filter a t b in
          h.same terms grows
          ∙ sym (left_is terms x.from e
          ∙ (ap (rest w x.from) (ap (bindings_of terms) (sym undo))
          ∙ ap (λ xs. xs ++ by_axioms w x.nest a (fill_goal a b) b)
          (turn terms (grows_on old new terms grown grows) ∙ sats_end w found from over)));
      lighter = omega (arith, h.lighter);
    }

    -- undoing to the mark, and terms that are added, move nothing above it
    pub undo_moves : (new : List Term) → Grows old new → AreBelow (length old) e → Moves x.mark old new e u
    undo_moves new grown below =
        subst (Moves x.mark old new e) (sym undo)
        (moves_grown x.mark old old new e (undone x.mark e) (moves_undone x.mark old e below) grown)

    -- and the bindings are those of the start
    pub undo_whole : length u.trail ≡ x.mark
    undo_whole = ap (λ (c : Slotted). length c.trail) undo ∙ length-undone x.mark e fits.0
