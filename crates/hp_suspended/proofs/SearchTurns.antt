-- Turns of an atom: places, the beginning of an axiom, and an axiom that is looked at.
use Rattle.std.proofs.Common.{◌≡◌, ℕ, ◌+◌, ◌<◌, ◌≤◌, List, [], ◌∷◌, ◌++◌, length, Box, Global, Option, Some, None, Result, Ok, Err, arith, refl, sym, ap, subst, ◌∙◌}
use Rattle.std.proofs.lemmas.List.{length-take-le}
use Rattle.std.specs.Prelude.{IfOk, IfSome, IfNone}
use Rattle.hp_syntax.specs.Events.{Event, Sat, Cut}
use Rattle.hp_syntax.specs.Terms.{Term}
use Rattle.hp_syntax.specs.Values.{Bindings}
use Rattle.hp_code.specs.CodeViews.{CodeView, IsCode}
use Rattle.hp_eval.specs.declared.event.Event as public_event
use Rattle.hp_eval.specs.declared.event.Event.TheVariants as events
use Rattle.hp_eval.specs.declared.goals.Goal.{Goal}
use Rattle.hp_eval.specs.GoalViews.{goal_of}
use Rattle.hp_eval.specs.Growth.{Grows}
use Rattle.hp_eval.specs.Slotted.{Slotted, AreBelow, Binds, undone, bindings_of}
use Rattle.hp_eval.proofs.GrowthLemmas.{grows_length, grows_self}
use Rattle.hp_eval.proofs.SlotLemmas.{below_undone, binds_self}
use Rattle.hp_suspended.specs.declared.scene.Scene.{Scene}
use Rattle.hp_suspended.specs.declared.suspended.Running.{Running}
use Rattle.hp_suspended.specs.Answering.{GivesOver, GoesOn, GoesOnOver, Keeps, MayGoOn, Moves}
use Rattle.hp_suspended.specs.Beginning.{MeetsRule}
use Rattle.hp_suspended.specs.Branching.{KeepsAxiom, axiom_left, is_under, search_turns, under}
use Rattle.hp_suspended.specs.Fitting.{Fits, RunningFits, running_weight}
use Rattle.hp_suspended.specs.Left.{left, running_left}
use Rattle.hp_suspended.specs.PlaceSteps.{Bound, TurnsPlaces}
use Rattle.hp_suspended.specs.SceneViews.{code_in, setting_of}
use Rattle.hp_suspended.specs.Settings.{Setting, axioms_from, places_from}
use Rattle.hp_suspended.specs.Views.{Idle, Level, RunningView, Search, Under, View, level_at, running_view}
use Rattle.hp_suspended.proofs.GoingOn.{goes_through}
use Rattle.hp_suspended.proofs.AxiomNodes.{axioms_ended}
use Rattle.hp_suspended.proofs.CallLemmas.{moved_above, moved_same, moves_grown, moves_on, moves_undone}
use Rattle.hp_suspended.proofs.CountLemmas.{goal_below_more}
use Rattle.hp_suspended.proofs.PlaceLemmas.{places_end}
use Rattle.hp_suspended.proofs.Shapes.{level_is}

-- an axiom that is looked at, by its fields
pub running_some : (o : Option (Box Running Global)) (b : Box Running Global) (r : Running) → o ≡ Some b
    → b.value ≡ r → running_view o ≡ under (level_at r)
running_some o b r e v = ap running_view e ∙ ap under (level_is b.value) ∙ ap (λ x. under (level_at x)) v

-- what is left where bindings are undone stays below a count
pub below_undoing : (count m : ℕ) (e u : Slotted) → u ≡ undone m e → AreBelow count e → AreBelow count u
below_undoing count m e u undo below = subst (AreBelow count) (sym undo) (below_undone count m e below)

-- no more than one axiom is looked at
one_under : (r : RunningView) → is_under r ≤ 1
one_under Idle = omega arith
one_under (Under head own start k end here) = omega arith

-- what is suspended is kept by one turn and another
pub kept_on : (c : CodeView) (a b : ℕ) (e f : Slotted) (u v w : View) → Keeps c a e u v → Keeps c b f v w
    → Keeps c b f u w
kept_on c a b e f u v w k l = record {
  start = l.start ∙ k.start;
  fits = l.fits;
  lighter = omega (arith, k.lighter, l.lighter);
}

module _ (s : Scene) (m n : ℕ) (q : Goal) (old : List Term) (slots : Slotted) (at' k : ℕ) (r : RunningView)
    (fits : Fits (code_in s) (length old) (length slots.trail) (Search m n q at' k r)) where
  -- bindings above the mark, made and undone, keep what is left of an atom
  stood_stays : (new : List Term) (f : Slotted) → Moves m old new slots f → (terms : List Term)
      → bindings_of terms (undone m slots) ≡ bindings_of terms (undone m f)
  stood_stays new f moves terms = ap (bindings_of terms) (sym (moved_same m old new slots f fits.0 moves))

  -- what is left behind the places, under some bindings
  abbrev behind : Setting → ℕ → RunningView → Bindings → List Event
  behind w i y b =
      running_left w n (goal_of w.terms q) b y ++ axioms_from w n i (goal_of w.terms q) b

  -- what is left of the atom
  abbrev rest : ℕ → ℕ → RunningView → Slotted → Setting → List Event
  rest i j y f w = left w f (Search m n q i j y)

  -- its turns
  abbrev turns : ℕ → ℕ → RunningView → Setting → ℕ
  turns i j y w = search_turns (length w.places) (length (w.code.axiom_rules q.name)) i j y

  -- an atom that goes on at the same mark is kept where the axiom fits, and weighs no more
  atom_kept : (new : List Term) (f : Slotted) → Moves m old new slots f → (i j : ℕ) (y : RunningView)
      → RunningFits (code_in s) (length new) n y
      → running_weight (length (code_in s).nodes) y ≤ running_weight (length (code_in s).nodes) r
      → Keeps (code_in s) (length new) f (Search m n q at' k r) (Search m n q i j y)
  atom_kept new f moves i j y g l = record {
    start = refl;
    fits = (
      moved_above m old new slots f fits.0 moves,
      goal_below_more (length old) (length new) q (grows_length old new moves.grows) fits.1,
      g,
    );
    lighter = omega (arith, l);
  }

  -- ---- places

  module _ (u f : Slotted) (o : Option public_event.Event) (undo : u ≡ undone m slots) (bound : Bound o u f) where
    -- where a place gives an event, and where it gives none, bindings are made above the mark alone
    bound_binds : (x : Option public_event.Event) → Bound x u f → Binds (undone m slots) f
    bound_binds None h = subst (λ e. Binds e f) undo (subst (Binds u) (sym h) (binds_self u))
    bound_binds (Some x) h = subst (λ e. Binds e f) undo h.1

    -- a turn at places makes bindings above the mark
    pub place_moves : AreBelow (length old) f → Moves m old old slots f
    place_moves below = record { grows = grows_self old; below = below; above = bound_binds o bound }

    module _ (i : ℕ) (below : AreBelow (length old) f) where
      -- the bindings of the start under which places are looked at
      start_is : (terms : List Term) → bindings_of terms (undone m slots) ≡ bindings_of terms u
      start_is terms = ap (bindings_of terms) (sym undo)

      -- those that stand at the mark behind it are the same
      start_was : (terms : List Term) → bindings_of terms u ≡ bindings_of terms (undone m f)
      start_was terms = sym (start_is terms) ∙ stood_stays old f (place_moves below) terms

      some_place : (x : Option public_event.Event) → Bound x u f
          → ((terms : List Term) → Grows old terms → TurnsPlaces x (setting_of s terms) q at' i u f)
          → IfSome x (λ z. GivesOver s old f z (rest at' k r slots) (rest i k r f))
      some_place None h turn = tt
      some_place (Some x) h turn = subst (λ z. GivesOver s old f z (rest at' k r slots) (rest i k r f)) (sym h.0)
          (λ terms grows.
          let w = setting_of s terms in
          let g = goal_of terms q in
          ap (λ b. places_from w at' g b ++ behind w k r b) (start_is terms)
          ∙ ap (λ xs. xs ++ behind w k r (bindings_of terms u)) (turn terms grows)
          ∙ ap (λ b. Sat (bindings_of terms f) ∷ (places_from w i g b ++ behind w k r b)) (start_was terms))

      no_place : (x : Option public_event.Event) → Bound x u f
          → ((terms : List Term) → Grows old terms → TurnsPlaces x (setting_of s terms) q at' i u f)
          → at' < i → at' < length s.world.now.places
          → IfNone x (GoesOnOver s old (rest at' k r slots) (rest i k r f) (turns at' k r) (turns i k r))
      no_place None h turn later less = λ terms grows.
          let w = setting_of s terms in
          let g = goal_of terms q in (
            sym (ap (λ b. places_from w at' g b ++ behind w k r b) (start_is terms)
                ∙ ap (λ xs. xs ++ behind w k r (bindings_of terms u)) (turn terms grows)
                ∙ ap (λ b. places_from w i g b ++ behind w k r b) (start_was terms)),
            omega (arith, later, less),
          )
      no_place (Some x) h turn later less = tt

      module _ (turn : (terms : List Term) → Grows old terms → TurnsPlaces o (setting_of s terms) q at' i u f) where
        -- the event of a place is the first of what is left
        pub place_gives : IfSome o (λ z. GivesOver s old f z (rest at' k r slots) (rest i k r f))
        place_gives = some_place o bound turn

        -- where a place gives none the same is left
        pub place_more : at' < i → at' < length s.world.now.places
            → IfNone o (GoesOnOver s old (rest at' k r slots) (rest i k r f) (turns at' k r) (turns i k r))
        place_more = no_place o bound turn

      -- an atom is kept by a turn at places
      pub place_keeps : Keeps (code_in s) (length old) f (Search m n q at' k r) (Search m n q i k r)
      place_keeps = atom_kept old f (place_moves below) i k r fits.2 (omega arith)

  -- ---- the next axiom

  -- what undoes bindings to the mark, and a call that adds terms, make none above it
  pub undo_moves : (new : List Term) (u : Slotted) → u ≡ undone m slots → Grows old new → AreBelow (length old) slots
      → Moves m old new slots u
  undo_moves new u undo grown below =
      subst (λ e. Moves m old new slots e) (sym undo)
      (moves_grown m old old new slots (undone m slots) (moves_undone m old slots below) grown)

  module _ (new : List Term) (u : Slotted) (moves : Moves m old new slots u) (idle : r ≡ Idle)
      (over : length s.world.now.places ≤ at') (j : ℕ) (y : RunningView) where
    -- under some bindings nothing is left of the places
    no_places : (terms : List Term) (b : Bindings) → places_from (setting_of s terms) at' (goal_of terms q) b ≡ []
    no_places terms b = places_end (setting_of s terms) (goal_of terms q) b at' over

    end_gives : IsCode (code_in s) → (o : Option public_event.Event)
        → IfSome o (λ x. (x ≡ events.End) × (length ((code_in s).axiom_rules q.name) ≤ k))
        → IfSome o (λ z. GivesOver s new u z (rest at' k r slots) (rest at' j y u))
    end_gives code None h = tt
    end_gives code (Some x) h =
        subst (λ z. GivesOver s new u z (rest at' k r slots) (rest at' j y u)) (sym h.0) (λ terms grows.
        let w = setting_of s terms in
        let b = bindings_of terms (undone m slots) in
        ap (λ z. rest at' k z slots w) idle
        ∙ ap (λ ps. ps ++ behind w k Idle b) (no_places terms b)
        ∙ axioms_ended w n k (goal_of terms q) code h.1 b)

    -- behind the last axiom nothing is left
    pub rule_gives : {E : Type 0} → IsCode (code_in s) → (o : Result (Option public_event.Event) E)
        → IfOk o (λ p. IfSome p (λ x. (x ≡ events.End) × (length ((code_in s).axiom_rules q.name) ≤ k)))
        → IfOk o (λ p. IfSome p (λ z. GivesOver s new u z (rest at' k r slots) (rest at' j y u)))
    rule_gives code (Ok o) h = end_gives code o h
    rule_gives code (Err e) h = tt

    next_more : (o : Option public_event.Event)
        → IfNone o ((k < length ((code_in s).axiom_rules q.name)) × (j ≡ k + 1))
        → IfNone o (MeetsRule s new n q k j y)
        → IfNone o (GoesOnOver s new (rest at' k r slots) (rest at' j y u) (turns at' k r) (turns at' j y))
    next_more None h meets = λ terms grows.
        let w = setting_of s terms in
        let g = goal_of terms q in
        let b = bindings_of terms (undone m slots) in (
          ap (λ c. places_from w at' g c ++ behind w j y c) (sym (stood_stays new u moves terms))
              ∙ ap (λ xs. places_from w at' g b ++ xs) (sym (meets terms b grows))
              ∙ ap (λ z. rest at' k z slots w) (sym idle),
          rw idle (omega (arith, h.0, h.1, one_under y)),
        )
    next_more (Some x) h meets = tt

    -- where an axiom begins the same is left
    pub rule_more : {E : Type 0} (o : Result (Option public_event.Event) E)
        → IfOk o (λ p. IfNone p ((k < length ((code_in s).axiom_rules q.name)) × (j ≡ k + 1)))
        → IfOk o (λ p. IfNone p (MeetsRule s new n q k j y))
        → IfOk o (λ p. IfNone p (GoesOnOver s new (rest at' k r slots) (rest at' j y u) (turns at' k r)
        (turns at' j y)))
    rule_more (Ok o) h meets = next_more o h meets
    rule_more (Err e) h meets = tt

    next_keeps : (o : Option public_event.Event)
        → IfSome o (λ x. (x ≡ events.End) × (length ((code_in s).axiom_rules q.name) ≤ k))
        → IfNone o (RunningFits (code_in s) (length new) n y)
        → IfNone o (running_weight (length (code_in s).nodes) y ≡ 0)
        → MayGoOn o (Keeps (code_in s) (length new) u (Search m n q at' k r) (Search m n q at' j y))
    next_keeps None h f l = atom_kept new u moves at' j y f (omega (arith, l))
    next_keeps (Some x) h f l =
        subst (λ z. GoesOn z (Keeps (code_in s) (length new) u (Search m n q at' k r) (Search m n q at' j y)))
        (sym h.0) tt

    -- an atom is kept where an axiom begins
    pub rule_keeps : {E : Type 0} (o : Result (Option public_event.Event) E)
        → IfOk o (λ p. IfSome p (λ x. (x ≡ events.End) × (length ((code_in s).axiom_rules q.name) ≤ k)))
        → IfOk o (λ p. IfNone p (RunningFits (code_in s) (length new) n y))
        → IfOk o (λ p. IfNone p (running_weight (length (code_in s).nodes) y ≡ 0))
        → IfOk o (λ p. MayGoOn p (Keeps (code_in s) (length new) u (Search m n q at' k r) (Search m n q at' j y)))
    rule_keeps (Ok o) h f l = next_keeps o h f l
    rule_keeps (Err e) h f l = tt

  -- ---- an axiom that is looked at

  -- an axiom's call above the bindings of the start is one above the mark
  pub axiom_moves : (new : List Term) (u f : Slotted) → u ≡ undone m slots → AreBelow (length old) slots
      → Moves (length u.trail) old new u f → Moves m old new slots f
  axiom_moves new u f undo below moves =
      let same : length (undone m slots).trail ≡ m = length-take-le m slots.trail fits.0 in
      moves_on m old old new slots (undone m slots) f fits.0 (moves_undone m old slots below)
      (subst (λ i. Moves i old new (undone m slots) f) same
      (subst (λ e. Moves (length e.trail) old new e f) undo moves))

  module _ (new : List Term) (u f : Slotted) (undo : u ≡ undone m slots) (moves : Moves m old new slots f) (x : Level)
      (running : r ≡ under x) where
    -- what is left of the axiom, over the bindings of the start
    abbrev axiom_rest : Level → Setting → List Event
    axiom_rest y w = axiom_left w n (goal_of w.terms q) (bindings_of w.terms u) y

    -- what is left of the atom, by that
    split : (terms : List Term) → rest at' k r slots (setting_of s terms)
        ≡ places_from (setting_of s terms) at' (goal_of terms q) (bindings_of terms u)
        ++ (axiom_rest x (setting_of s terms)
        ++ axioms_from (setting_of s terms) n k (goal_of terms q) (bindings_of terms u))
    split terms =
        let w = setting_of s terms in
        ap (λ z. rest at' k z slots w) running
        ∙ ap (λ b. places_from w at' (goal_of terms q) b ++ behind w k (under x) b)
        (ap (bindings_of terms) (sym undo))

    -- the bindings of the start are those that stand behind the call
    start_stands : (terms : List Term) → bindings_of terms u ≡ bindings_of terms (undone m f)
    start_stands terms = ap (bindings_of terms) undo ∙ stood_stays new f moves terms

    -- at the end of an axiom the later ones are left
    pub axiom_more : (y : Level) → GivesOver s new f events.End (axiom_rest x) (axiom_rest y)
        → GoesOnOver s new (rest at' k r slots) (rest at' k Idle f) (turns at' k r) (turns at' k Idle)
    axiom_more y gives = λ terms grows.
        let w = setting_of s terms in
        let g = goal_of terms q in
        let b = bindings_of terms u in (
          sym (split terms
              ∙ ap (λ xs. places_from w at' g b ++ (xs ++ axioms_from w n k g b)) (gives terms grows)
              ∙ ap (λ c. places_from w at' g c ++ axioms_from w n k g c) (start_stands terms)),
          rw running (omega arith),
        )

    -- an atom is kept at the end of an axiom
    pub axiom_ended : Keeps (code_in s) (length new) f (Search m n q at' k r) (Search m n q at' k Idle)
    axiom_ended = atom_kept new f moves at' k Idle tt (omega arith)

    module _ (over : length s.world.now.places ≤ at') (y : Level) (v : RunningView)
        (is : v ≡ under y) where
      -- behind the last place the events of the axiom come first
      first_left : (terms : List Term) → rest at' k r slots (setting_of s terms)
          ≡ axiom_rest x (setting_of s terms)
          ++ axioms_from (setting_of s terms) n k (goal_of terms q) (bindings_of terms u)
      first_left terms =
          let w = setting_of s terms in
          let b = bindings_of terms u in
          split terms
          ∙ ap (λ ps. ps ++ (axiom_rest x w ++ axioms_from w n k (goal_of terms q) b))
          (places_end w (goal_of terms q) b at' over)

      -- so they do behind the call
      later_left : (terms : List Term) → rest at' k v f (setting_of s terms)
          ≡ axiom_rest y (setting_of s terms)
          ++ axioms_from (setting_of s terms) n k (goal_of terms q) (bindings_of terms u)
      later_left terms =
          let w = setting_of s terms in
          let b = bindings_of terms (undone m f) in
          ap (λ z. rest at' k z f w) is
          ∙ ap (λ ps. ps ++ behind w k (under y) b) (places_end w (goal_of terms q) b at' over)
          ∙ ap (behind w k (under y)) (sym (start_stands terms))

      -- the first event of an axiom is that of the atom
      pub axiom_gives : (z : public_event.Event) → (z ≡ events.End → ⊥)
          → GivesOver s new f z (axiom_rest x) (axiom_rest y)
          → GivesOver s new f z (rest at' k r slots) (rest at' k v f)
      axiom_gives events.Sat more gives = λ terms grows.
          let w = setting_of s terms in
          let later = axioms_from w n k (goal_of terms q) (bindings_of terms u) in
          first_left terms ∙ ap (λ xs. xs ++ later) (gives terms grows)
          ∙ ap (λ xs. Sat (bindings_of terms f) ∷ xs) (sym (later_left terms))
      axiom_gives events.Cut more gives = λ terms grows.
          let w = setting_of s terms in
          let later = axioms_from w n k (goal_of terms q) (bindings_of terms u) in
          first_left terms ∙ ap (λ xs. xs ++ later) (gives terms grows)
          ∙ ap (λ xs. Cut ∷ xs) (sym (later_left terms))
      axiom_gives (events.Fault e) more gives = λ terms grows.
          let w = setting_of s terms in
          let later = axioms_from w n k (goal_of terms q) (bindings_of terms u) in
          let g = gives terms grows in
          (g.0 ++ later, first_left terms ∙ ap (λ xs. xs ++ later) g.1)
      axiom_gives events.End more gives = absurd (more refl)

      -- an atom is kept where an axiom is
      pub axiom_keeps : (z : public_event.Event) → GoesOn z (KeepsAxiom (code_in s) (length new) n x y)
          → GoesOn z (Keeps (code_in s) (length new) f (Search m n q at' k r) (Search m n q at' k v))
      axiom_keeps z h =
          goes_through z (KeepsAxiom (code_in s) (length new) n x y)
          (Keeps (code_in s) (length new) f (Search m n q at' k r) (Search m n q at' k v)) step h
        where
          step : KeepsAxiom (code_in s) (length new) n x y
              → Keeps (code_in s) (length new) f (Search m n q at' k r) (Search m n q at' k v)
          step h = record {
            start = refl;
            fits = (
              moved_above m old new slots f fits.0 moves,
              goal_below_more (length old) (length new) q (grows_length old new moves.grows) fits.1,
              subst (RunningFits (code_in s) (length new) n) (sym is) h.fits,
            );
            lighter = rw (running, is) (omega (arith, h.lighter));
          }
