-- One visit of a bounded walk.
use Rattle.std.proofs.Common.{◌≡◌, ℕ, Bool, true, false, ◌&&◌, cond, ℤ, List, [], ◌∷◌, Option, Some, None, refl, sym, ap, ap₂, ◌∙◌, subst}
use Rattle.hp_net.proofs.Counts.{count_on}
use Rattle.hp_passes.proofs.PassingLemmas.{Meets, MetNone, MetOne, MetLast, TurnsAs}
use Rattle.hp_passes.specs.declared.passing.Turn.{Turn}
use Rattle.hp_passes.specs.declared.passing.Turn.TheVariants.{On, Past, Last}
use Rattle.hp_passes.specs.Passes as passes
use Rattle.hp_syntax.specs.Report.{Ended, Tally, AtFault, ended, with_plan, with_did, with_cut}
use Rattle.hp_syntax.specs.Walk.{Sight, Visit, Did, Plan, CutHere, FaultHere, is_plan, skip, count_told}
use Rattle.hp_best.specs.declared.bounding.Bounding.{Bounding}
use Rattle.hp_best.specs.declared.bounding.Chosen.{Chosen}
use Rattle.hp_best.specs.declared.bounding.Found.{Found}
use Rattle.hp_best.specs.Bounded.{reaches, lower, bounded_turn, chosen_cost, chosen_of, chosen_from, cost_of, last_of, IsChosen, end_told}
use Rattle.hp_best.specs.Searching.{Finds, meets_bounding}
use Rattle.hp_best.proofs.ChoiceLemmas.{cost_lower}
use Rattle.hp_best.proofs.VisitSteps.{chosen_at, chosen_past, last_cut, last_did, last_fault, last_plan, turn_cut, turn_did, turn_fault, turn_plan}

-- ---- turns

-- what the held plan costs is what the chosen one does
same_cost : (best : Option Chosen) (o : Option Visit) → IsChosen best o → cost_of best ≡ chosen_cost o
same_cost None None h = refl
same_cost None (Some v) h = absurd h
same_cost (Some c) None h = absurd h
same_cost (Some c) (Some v) h = ap Some h.cost

-- a search holds a chosen plan, which costs this
pub record Holds (priced : Bool) (bound : Option ℤ) (s : Bounding) (c : Unit {0}) (vs : List Visit) : Type 0 where
  pub priced_too : s.priced ≡ priced
  pub chosen : Option Visit
  pub held : IsChosen s.found.best chosen
  pub cost : chosen_cost chosen ≡ bound

-- nothing is wanted of the last visit
abbrev pub Over : Option ℤ → Bounding → Unit {0} → Visit → Type 0
Over b s c v = Unit {0}

module _ (priced : Bool) where
  abbrev Turns : passes.Turn (Option ℤ) → Turn → Bounding → Unit {0} → Visit → List Visit → Type 0
  Turns = TurnsAs meets_bounding (bounded_turn priced) (Holds priced) Over

  did_turns : (bound : Option ℤ) (t : Bounding) (d : Unit {0}) (v : Visit) (vs : List Visit)
      → ((ws : List Visit) → Holds priced bound t d ws) → (b : Bool)
      → Turns (cond b (passes.Past bound) (passes.On bound)) (cond b Past On) t d v vs
  did_turns bound t d v vs h true = h (skip v.path vs)
  did_turns bound t d v vs h false = h vs

  -- a search turns as a bounded walk does
  pub turns : (bound : Option ℤ) (s t : Bounding) (c d : Unit {0}) (v : Visit) (vs : List Visit) (x : Turn)
      → Holds priced bound s c (v ∷ vs) → meets_bounding s c v x t d → Turns (bounded_turn priced bound v) x t d v vs
  turns bound s t c d v vs x h m = by v.sight refl m.1
    where
      same : t.found.best ≡ s.found.best → (ws : List Visit) → Holds priced bound t d ws
      same e ws = record {
        priced_too = m.0 ∙ h.priced_too;
        chosen = h.chosen;
        held = subst (λ o. IsChosen o h.chosen) (sym e) h.held;
        cost = h.cost;
      }

      turned : (j : passes.Turn (Option ℤ)) (y : Turn) → bounded_turn priced bound v ≡ j → x ≡ y
          → Turns j y t d v vs → Turns (bounded_turn priced bound v) x t d v vs
      turned j y a b e =
          subst (λ z. Turns z x t d v vs) (sym a) (subst (λ z. Turns j z t d v vs) (sym b) e)

      by : (y : Sight) → v.sight ≡ y → Finds y s v x t.found → Turns (bounded_turn priced bound v) x t d v vs
      by Did e f =
          let b = priced && reaches bound v.node.cost in
          turned (cond b (passes.Past bound) (passes.On bound)) (cond b Past On) (turn_did priced bound v e)
          (f.0 ∙ ap₂ (λ p c. cond (p && reaches c v.node.cost) Past On) h.priced_too
          (same_cost s.found.best h.chosen h.held ∙ h.cost))
          (did_turns bound t d v vs (same (ap (λ z. z.best) f.1)) b)
      by Plan e f =
          turned (passes.On (lower bound v.node.cost)) On (turn_plan priced bound v e) f.0
          (record {
            priced_too = m.0 ∙ h.priced_too;
            chosen = chosen_of h.chosen v;
            held = f.2 h.chosen h.held;
            cost = cost_lower h.chosen v ∙ ap (λ c. lower c v.node.cost) h.cost;
          })
      by CutHere e f =
          turned (passes.On bound) On (turn_cut priced bound v e) f.0 (same (ap (λ z. z.best) f.1) vs)
      by (FaultHere g) e f = turned (passes.Last bound) Last (turn_fault priced bound v g e) f.0 tt

-- ---- what is found

-- what was found is this choice and ending
pub record IsOutcome (f : Found) (o : Option Visit) (e : Ended) : Type 0 where
  pub best : IsChosen f.best o
  pub plans : f.plans ≡ count_told e.tally.plans
  pub expansions : f.expansions ≡ count_told e.tally.expansions
  pub ending : end_told f.ending ≡ e.ending

same_outcome : (f : Found) (o q : Option Visit) (e l : Ended) → o ≡ q → e ≡ l → IsOutcome f q l → IsOutcome f o e
same_outcome f o q e l a b h =
    subst (λ z. IsOutcome f z e) (sym a) (subst (IsOutcome f q) (sym b) h)

-- a visit more, which may be the last, and those after it
module _ (s t : Bounding) (u : Found) (v : Visit) (vs : List Visit) (x : Turn) (o : Option Visit) (n : Tally)
    (so_far : IsOutcome s.found o (last_of n []))
    (rest : (q : Option Visit) (m : Tally) → IsOutcome t.found q (last_of m [])
    → IsOutcome u (chosen_from q vs) (last_of m vs))
    (last : x ≡ Last → (u ≡ t.found) × (vs ≡ [])) where
  one_more : (y : Sight) → v.sight ≡ y → Finds y s v x t.found
      → IsOutcome u (chosen_from o (v ∷ vs)) (last_of n (v ∷ vs))
  one_more Did e f =
      same_outcome u _ _ _ _ (chosen_past o v vs (ap is_plan e)) (last_did n v vs e)
      (rest o (with_did n)
      (subst (λ z. IsOutcome z o (last_of (with_did n) [])) (sym f.1)
      (record {
        best = so_far.best;
        plans = so_far.plans;
        expansions = count_on _ s.found.expansions n.expansions so_far.expansions refl;
        ending = so_far.ending;
      })))
  one_more Plan e f =
      same_outcome u _ _ _ _ (chosen_at o v vs (ap is_plan e)) (last_plan n v vs e)
      (rest (chosen_of o v) (with_plan n)
      (subst (λ z. IsOutcome z (chosen_of o v) (last_of (with_plan n) [])) (sym f.1)
      (record {
        best = f.2 o so_far.best;
        plans = count_on _ s.found.plans n.plans so_far.plans refl;
        expansions = so_far.expansions;
        ending = so_far.ending;
      })))
  one_more CutHere e f =
      same_outcome u _ _ _ _ (chosen_past o v vs (ap is_plan e)) (last_cut n v vs e)
      (rest o (with_cut n)
      (subst (λ z. IsOutcome z o (last_of (with_cut n) [])) (sym f.1)
      (record { best = so_far.best; plans = so_far.plans; expansions = so_far.expansions; ending = refl })))
  one_more (FaultHere g) e f =
      let over = last f.0 in
      same_outcome u _ _ _ _ (chosen_past o v vs (ap is_plan e) ∙ ap (chosen_from o) over.1) (last_fault n v vs g e)
      (subst (λ z. IsOutcome z o (ended (AtFault g) n)) (sym (over.0 ∙ f.1))
      (record { best = so_far.best; plans = so_far.plans; expansions = so_far.expansions; ending = refl }))

-- a chain of visits
pub outcome : (s u : Bounding) (c e : Unit {0}) (vs : List Visit) (o : Option Visit) (n : Tally)
    → Meets meets_bounding s c vs u e → IsOutcome s.found o (last_of n [])
    → IsOutcome u.found (chosen_from o vs) (last_of n vs)
outcome _ _ _ _ _ o n (MetNone s c) h = h
outcome _ _ _ _ _ o n (MetOne s t u c d e v vs x on m rest) h =
    one_more s t u.found v vs x o n h (λ q k g. outcome t u d e vs q k rest g) (λ l. absurd (on l)) v.sight refl m.1
outcome _ _ _ _ _ o n (MetLast s t c d v m) h =
    one_more s t t.found v [] Last o n h (λ q k g. g) (λ l. (refl, refl)) v.sight refl m.1
