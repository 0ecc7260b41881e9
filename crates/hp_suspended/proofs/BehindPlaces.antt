-- What is begun of an atom behind the places.
use Rattle.std.proofs.Common.{◌≡◌, ℕ, ◌≤◌, ◌++◌, Bool, true, false, List, [], ◌∷◌, length, Option, Some, None, Result, Ok, Err, arith, refl, sym, ap, subst, ◌∙◌}
use Rattle.std.specs.Prelude.{◌==◌, not}
use Rattle.std.proofs.lemmas.Bool.Decides.{nat_tests}
use Rattle.hp_syntax.specs.declared.fault.RunFault.{RunFault}
use Rattle.hp_syntax.specs.Syntax.{Atom}
use Rattle.hp_syntax.specs.Terms.{Term, Terms, Symbol, More}
use Rattle.hp_syntax.specs.Values.{Bindings, list_of, on_ok}
use Rattle.hp_syntax.specs.Goals as plain
use Rattle.hp_syntax.specs.Goals.{fill_goal, fill_parts, ground_parts}
use Rattle.hp_syntax.specs.Events.{Fault}
use Rattle.hp_code.specs.CodeViews.{IsCode}
use Rattle.hp_eval.specs.declared.event.Event.TheVariants as events
use Rattle.hp_eval.specs.declared.goals.Goal.{Goal}
use Rattle.hp_eval.specs.GoalViews.{GoalBelow, goal_of}
use Rattle.hp_eval.specs.Growth.{Grows}
use Rattle.hp_eval.specs.Slotted.{Slotted, AreBelow, bindings_of}
use Rattle.hp_eval.specs.SlotLaws.{undone_whole}
use Rattle.hp_eval.proofs.GrowthLemmas.{kept_agree}
use Rattle.hp_suspended.specs.declared.scene.Scene.{Scene}
use Rattle.hp_suspended.specs.Beginning.{BeginsFilled}
use Rattle.hp_suspended.specs.Filtered.{by_axioms, fault_by}
use Rattle.hp_suspended.specs.Left.{stood}
use Rattle.hp_suspended.specs.SceneViews.{code_in, setting_of}
use Rattle.hp_suspended.specs.Settings.{axioms_from, places_from}
use Rattle.hp_suspended.specs.SimpleAtoms.{IsBehindPlaces}
use Rattle.hp_suspended.specs.Views.{Idle, One, Search, View}
use Rattle.hp_suspended.proofs.AxiomNodes.{axioms_ended}
use Rattle.hp_suspended.proofs.BeginSteps.{bindings_later}
use Rattle.hp_suspended.proofs.CountLemmas.{goal_agrees}
use Rattle.hp_suspended.proofs.PlaceLemmas.{places_end}

-- the name of a goal, if there is one
abbrev name_of : Result plain.Goal RunFault → List ℕ
name_of (Ok p) = p.name
name_of (Err x) = []

-- a goal that an atom is filled to has its name
goal_name : (a : Atom) (f : plain.Filling) (o : Option Terms) (q : plain.Goal) → plain.goal_of a f o ≡ Ok q
    → q.name ≡ a.name
goal_name a f None q h = ap name_of (sym h)
goal_name a f (Some ts) q h = by (list_of a.span (More (Symbol a.name) ts)) h
  where
    by : (r : Result Term RunFault)
        → on_ok r (λ t. Ok (record { name = a.name; parts = f.0; tail = f.1 })) ≡ Ok q → q.name ≡ a.name
    by (Ok t) k = ap name_of (sym k)
    by (Err x) k = absurd cc

filled_name : (a : Atom) (b : Bindings) (q : plain.Goal) → fill_goal a b ≡ Ok q → q.name ≡ a.name
filled_name a b q h = by (fill_parts a.args a.tail b) h
  where
    by : (r : Result plain.Filling RunFault)
        → on_ok r (λ (f : plain.Filling). plain.goal_of a f (ground_parts f.0 f.1)) ≡ Ok q → q.name ≡ a.name
    by (Ok f) k = goal_name a f (ground_parts f.0 f.1) q k
    by (Err x) k = absurd cc

-- where there are no axioms there is no fault
no_fault : (rules : List ℕ) (x : RunFault) → length rules ≡ 0 → fault_by rules x ≡ []
no_fault [] x h = refl
no_fault (i ∷ is) x h = absurd (omega arith)

-- where there are some there is
some_fault : (rules : List ℕ) (x : RunFault) → (length rules ≡ 0 → ⊥) → fault_by rules x ≡ Fault x ∷ []
some_fault [] x h = absurd (h refl)
some_fault (i ∷ is) x h = refl

module _ (s : Scene) (m n : ℕ) (a : Atom) (new : List Term) (e : Slotted) (long : length e.trail ≡ m)
    (concluded : Bool) (tells : concluded ≡ not (length ((code_in s).axiom_rules a.name) == 0)) where
  -- ---- where no axiom has the name

  module _ (code : IsCode (code_in s)) (none : concluded ≡ false) where
    no_rules : length ((code_in s).axiom_rules a.name) ≡ 0
    no_rules = grind (arith, nat_tests)

    nothing_by : (terms : List Term) (r : Result plain.Goal RunFault) → fill_goal a (bindings_of terms e) ≡ r
        → by_axioms (setting_of s terms) n a r (bindings_of terms e) ≡ []
    nothing_by terms (Ok q) h =
        let over : length ((code_in s).axiom_rules q.name) ≤ 0 =
        subst (λ x. length ((code_in s).axiom_rules x) ≤ 0) (sym (filled_name a (bindings_of terms e) q h))
        (omega (arith, no_rules)) in
        axioms_ended (setting_of s terms) n 0 q code over (bindings_of terms e)
    nothing_by terms (Err x) h = no_fault ((code_in s).axiom_rules a.name) x no_rules

    -- nothing is left
    pub behind_none : (v : View) → v ≡ One m events.End → IsBehindPlaces s new e m n a v
    behind_none v made = rw made (record {
      start = refl;
      begun = tt;
      fits = omega arith;
      same = λ terms grows. sym (nothing_by terms (fill_goal a (bindings_of terms e)) refl);
      lighter = omega arith;
    })

  -- ---- where one has

  module _ (some : concluded ≡ true) (old : List Term) (g : Grows old new) (below : AreBelow (length old) e) (from : ℕ)
      (over : length s.world.now.places ≤ from) where
    some_rules : length ((code_in s).axiom_rules a.name) ≡ 0 → ⊥
    some_rules h = absurd (grind (arith, nat_tests))

    -- the bindings at the mark are those that there are
    stood_here : (terms : List Term) → stood (setting_of s terms) e m ≡ bindings_of terms e
    stood_here terms = ap (bindings_of terms) (undone_whole m e long)

    behind_fault : (x : RunFault) → fill_goal a (bindings_of old e) ≡ Err x
        → IsBehindPlaces s new e m n a (One m (events.Fault x))
    behind_fault x unfilled = record {
      start = refl;
      begun = tt;
      fits = omega arith;
      same =
          λ terms grows.
          sym (ap (λ r. by_axioms (setting_of s terms) n a r (bindings_of terms e))
          (ap (fill_goal a) (bindings_later old new terms g grows e below) ∙ unfilled)
          ∙ some_fault ((code_in s).axiom_rules a.name) x some_rules);
      lighter = omega arith;
    }

    behind_search : (q : Goal) → GoalBelow (length new) q → fill_goal a (bindings_of old e) ≡ Ok (goal_of new q)
        → IsBehindPlaces s new e m n a (Search m n q from 0 Idle)
    behind_search q q_below filled = record {
      start = refl;
      begun = tt;
      fits = (omega arith, q_below, tt);
      same =
          λ terms grows.
          let w = setting_of s terms in
          let p = goal_of terms q in
          let same : goal_of new q ≡ p =
          goal_agrees (length new) new terms (kept_agree new terms grows (length new) (omega arith)) q q_below in
          ap (λ b. places_from w from p b ++ axioms_from w n 0 p b) (stood_here terms)
          ∙ (ap (λ xs. xs ++ axioms_from w n 0 p (bindings_of terms e)) (places_end w p (bindings_of terms e) from over)
          ∙ sym (ap (λ r. by_axioms w n a r (bindings_of terms e))
          (ap (fill_goal a) (bindings_later old new terms g grows e below) ∙ (filled ∙ ap Ok same))));
      lighter = omega arith;
    }

    by_filled : (v : View) (r : Result plain.Goal RunFault) → fill_goal a (bindings_of old e) ≡ r
        → BeginsFilled (length new) m n from v (goal_of new) r → IsBehindPlaces s new e m n a v
    by_filled v (Ok p) h (q, is, q_below, stands) =
        subst (IsBehindPlaces s new e m n a) (sym is) (behind_search q q_below (h ∙ ap Ok stands))
    by_filled v (Err x) h is = subst (IsBehindPlaces s new e m n a) (sym is) (behind_fault x h)

    -- its goal is left, or the fault of filling it
    pub behind_filled : (v : View) → BeginsFilled (length new) m n from v (goal_of new) (fill_goal a (bindings_of old e))
        → IsBehindPlaces s new e m n a v
    behind_filled v h = by_filled v (fill_goal a (bindings_of old e)) refl h
