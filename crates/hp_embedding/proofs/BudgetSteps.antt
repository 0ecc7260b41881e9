-- Facts of a search for a plan within a budget.
use Rattle.std.proofs.Common.{◌≡◌, ℕ, zero, suc, Bool, true, false, ◌&&◌, cond, ℤ, ◌≤ℤ◌, List, [], ◌∷◌, Option, Some, None, MatchOption, refl, sym, ap, ◌∙◌, subst, arith}
use Rattle.std.specs.Prelude.{◌<ℤ◌, IfSome}
use Rattle.std.specs.Int.Signed.{le_z, le_z_yes, clash_ℤ, <ℤ-≤ℤ_trans}
use Rattle.std.specs.List.{All, Any, find}
use Rattle.std.proofs.lemmas.Float.{T_from_true}
use Rattle.std.proofs.lemmas.List.Elements.{All-head, All-tail}
use Rattle.hp_laws.proofs.JoinLemmas.{pairs_head, pairs_tail}
use Rattle.hp_net.specs.Standings.{Standing}
use Rattle.hp_passes.specs.Passing.{Passes, AtEnd, GoesOn, LeavesOut, Ends, Stops, Between, Within, AfterOne, AfterPart}
use Rattle.hp_passes.specs.declared.passing.Stop.{Stop}
use Rattle.hp_passes.specs.declared.passing.Stop.TheVariants as stops
use Rattle.hp_syntax.specs.Walk.{Visit, FaultHere, is_plan, begins, skip}
use Rattle.hp_embedding.specs.declared.budget.Affordable.{Affordable}
use Rattle.hp_embedding.specs.declared.budget.AffordablePlan.{AffordablePlan}
use Rattle.hp_embedding.specs.declared.budget.SearchError.{SearchError}
use Rattle.hp_embedding.specs.declared.budget.SearchError.TheVariants as errors
use Rattle.hp_embedding.specs.Budgets.{NeverFalls, is_affordable, IsOf, IsTaken, IsFirst, IsErrorAt, Explains, meets_affordable, fails_affordable}

-- ---- lists

-- some element later on is some element of all
any_later : (P : Visit → Type 0) (v : Visit) (vs : List Visit) → Any P vs → Any P (v ∷ vs)
any_later P v vs h = (suc h.0, h.1, (let l = h.2 in omega arith), h.3, h.4)

any_first : (P : Visit → Type 0) (v : Visit) (vs : List Visit) → P v → Any P (v ∷ vs)
any_first P v vs h = (zero, v, omega arith, refl, h)

-- some element of what is left without a part is some element of all
any_skipped : (P : Visit → Type 0) (p : List ℕ) (vs : List Visit) → Any P (skip p vs) → Any P vs
any_skipped P p [] h = h
any_skipped P p (v ∷ vs) h = by (begins p v.path) h (any_skipped P p vs)
  where
    by : (b : Bool) → Any P (cond b (skip p vs) (v ∷ vs)) → (Any P (skip p vs) → Any P vs) → Any P (v ∷ vs)
    by true k f = any_later P v vs (f k)
    by false k f = k

-- ---- costs

-- below a decomposition all costs no less
abbrev IsNoCheaper : Visit → Visit → Type 0
IsNoCheaper v w = begins v.path w.path ≡ true → v.node.cost ≤ℤ w.node.cost

-- what costs more than a budget is no plan within it
dear : (budget : ℤ) (v : Visit) → budget <ℤ v.node.cost → is_affordable budget v ≡ false
dear budget v above = by (is_plan v.sight) (le_z v.node.cost budget) refl
  where
    by : (p b : Bool) → le_z v.node.cost budget ≡ b → (p && b) ≡ false
    by true true e = absurd (clash_ℤ above (le_z_yes (T_from_true (le_z v.node.cost budget) e)))
    by true false e = refl
    by false b e = refl

-- the first plan within a budget isn't below a decomposition that costs more
not_below : (budget : ℤ) (v : Visit) (ws : List Visit) → budget <ℤ v.node.cost → All (IsNoCheaper v) ws
    → find (is_affordable budget) ws ≡ find (is_affordable budget) (skip v.path ws)
not_below budget v [] above a = refl
not_below budget v (w ∷ ws) above a =
    by (begins v.path w.path) refl (not_below budget v ws above (All-tail (IsNoCheaper v) w ws a))
  where
    by : (b : Bool) → begins v.path w.path ≡ b
        → find (is_affordable budget) ws ≡ find (is_affordable budget) (skip v.path ws)
        → find (is_affordable budget) (w ∷ ws) ≡ find (is_affordable budget) (cond b (skip v.path ws) (w ∷ ws))
    by true e h =
        let over : is_affordable budget w ≡ false =
        dear budget w (<ℤ-≤ℤ_trans above (All-head (IsNoCheaper v) w ws a e)) in
        let past : find (is_affordable budget) (w ∷ ws) ≡ find (is_affordable budget) ws = rw over refl in past ∙ h
    by false e h = refl

skip_falls : (p : List ℕ) (vs : List Visit) → NeverFalls vs → NeverFalls (skip p vs)
skip_falls p [] h = h
skip_falls p (v ∷ vs) h = by (begins p v.path) (skip_falls p vs (pairs_tail IsNoCheaper v vs h))
  where
    by : (b : Bool) → NeverFalls (skip p vs) → NeverFalls (cond b (skip p vs) (v ∷ vs))
    by true k = k
    by false k = h

-- ---- the whole search

-- what is found is the first, where the same is found in what is left
found_later : (budget : ℤ) (o : Option AffordablePlan) (vs ws : List Visit)
    → find (is_affordable budget) vs ≡ find (is_affordable budget) ws → IsFirst budget o ws → IsFirst budget o vs
found_later budget None vs ws e h = e ∙ h
found_later budget (Some f) vs ws e h = subst (λ o. MatchOption o ⊥ (IsOf f)) (sym e) h

-- a plan that is taken is the first
taken_here : (budget : ℤ) (o : Option AffordablePlan) (v : Visit) (vs : List Visit)
    → MatchOption o ⊥ (λ f. IsTaken budget f v) → IsFirst budget o (v ∷ vs)
taken_here budget None v vs h = absurd h
taken_here budget (Some f) v vs h =
    let here : find (is_affordable budget) (v ∷ vs) ≡ Some v = rw h.0 refl in
    subst (λ o. MatchOption o ⊥ (IsOf f)) (sym here) h.1

-- where costs never fall, a search that has found nothing yet finds the first
pub finds_first : (s u : Affordable) (c e : Unit {0}) (vs : List Visit) (there : Standing) → s.found ≡ None
    → Passes meets_affordable s c vs u e there → NeverFalls vs → IsFirst s.budget u.found vs
finds_first _ _ _ _ _ _ none (AtEnd s c) h = subst (λ o. IsFirst s.budget o []) (sym none) refl
finds_first _ _ _ _ _ _ none (GoesOn s t u c d e v vs there m rest) h =
    let past : find (is_affordable s.budget) (v ∷ vs) ≡ find (is_affordable s.budget) vs = rw m.1 refl in
    found_later s.budget u.found (v ∷ vs) vs past
    (subst (λ x. IsFirst x.budget u.found vs) m.0
    (finds_first t u d e vs there (ap (λ x. x.found) m.0 ∙ none) rest (pairs_tail IsNoCheaper v vs h)))
finds_first _ _ _ _ _ _ none (LeavesOut s t u c d e v vs there m rest) h =
    let over : is_affordable s.budget v ≡ false = dear s.budget v m.1 in
    let past : find (is_affordable s.budget) (v ∷ vs) ≡ find (is_affordable s.budget) vs = rw over refl in
    found_later s.budget u.found (v ∷ vs) (skip v.path vs)
    (past ∙ not_below s.budget v vs m.1 (pairs_head IsNoCheaper v vs h))
    (subst (λ x. IsFirst x.budget u.found (skip v.path vs)) m.0
    (finds_first t u d e (skip v.path vs) there (ap (λ x. x.found) m.0 ∙ none) rest
    (skip_falls v.path vs (pairs_tail IsNoCheaper v vs h))))
finds_first _ _ _ _ _ _ none (Ends s t c d v vs m) h = taken_here s.budget t.found v vs m

-- what a search finds is some plan within the budget
pub finds_some : (s u : Affordable) (c e : Unit {0}) (vs : List Visit) (there : Standing) → s.found ≡ None
    → Passes meets_affordable s c vs u e there → IfSome u.found (λ f. Any (IsTaken s.budget f) vs)
finds_some _ _ _ _ _ _ none (AtEnd s c) =
    subst (λ o. IfSome o (λ f. Any (IsTaken s.budget f) [])) (sym none) tt
finds_some _ _ _ _ _ _ none (GoesOn s t u c d e v vs there m rest) =
    by u.found
    (subst (λ x. IfSome u.found (λ f. Any (IsTaken x.budget f) vs)) m.0
    (finds_some t u d e vs there (ap (λ x. x.found) m.0 ∙ none) rest))
  where
    by : (o : Option AffordablePlan) → IfSome o (λ f. Any (IsTaken s.budget f) vs)
        → IfSome o (λ f. Any (IsTaken s.budget f) (v ∷ vs))
    by None k = tt
    by (Some f) k = any_later (IsTaken s.budget f) v vs k
finds_some _ _ _ _ _ _ none (LeavesOut s t u c d e v vs there m rest) =
    by u.found
    (subst (λ x. IfSome u.found (λ f. Any (IsTaken x.budget f) (skip v.path vs))) m.0
    (finds_some t u d e (skip v.path vs) there (ap (λ x. x.found) m.0 ∙ none) rest))
  where
    by : (o : Option AffordablePlan) → IfSome o (λ f. Any (IsTaken s.budget f) (skip v.path vs))
        → IfSome o (λ f. Any (IsTaken s.budget f) (v ∷ vs))
    by None k = tt
    by (Some f) k =
        any_later (IsTaken s.budget f) v vs (any_skipped (IsTaken s.budget f) v.path vs k)
finds_some _ _ _ _ _ _ none (Ends s t c d v vs m) = by t.found m
  where
    by : (o : Option AffordablePlan) → MatchOption o ⊥ (λ f. IsTaken s.budget f v)
        → IfSome o (λ f. Any (IsTaken s.budget f) (v ∷ vs))
    by None k = absurd k
    by (Some f) k = any_first (IsTaken s.budget f) v vs k

-- ---- errors

pub explained_later : (x : SearchError) (v : Visit) (vs : List Visit) → Explains x vs → Explains x (v ∷ vs)
explained_later errors.NoMemory v vs h = tt
explained_later (errors.Fault f) v vs h = any_later (λ w. w.sight ≡ FaultHere f) v vs h

explained_skipped : (x : SearchError) (p : List ℕ) (vs : List Visit) → Explains x (skip p vs) → Explains x vs
explained_skipped errors.NoMemory p vs h = tt
explained_skipped (errors.Fault f) p vs h = any_skipped (λ w. w.sight ≡ FaultHere f) p vs h

pub explained_here : (x : SearchError) (v : Visit) (vs : List Visit) → IsErrorAt x v → Explains x (v ∷ vs)
explained_here errors.NoMemory v vs h = tt
explained_here (errors.Fault f) v vs h = any_first (λ w. w.sight ≡ FaultHere f) v vs h

-- why a search stops
abbrev pub error_of : Stop SearchError → SearchError
error_of stops.NoMemory = errors.NoMemory
error_of (stops.Failed e) = e

-- a search that stops at a fault has met it
pub explained : (s : Affordable) (c e : Unit {0}) (vs : List Visit) (x : Stop SearchError)
    → Stops meets_affordable fails_affordable s c vs x e → Explains (error_of x) vs
explained _ _ _ _ _ (Between s c vs) = tt
explained _ _ _ _ _ (Within s c d v vs x m) = explained_here x v vs m
explained _ _ _ _ _ (AfterOne s t c d e v vs x m rest) =
    explained_later (error_of x) v vs (explained t d e vs x rest)
explained _ _ _ _ _ (AfterPart s t c d e v vs x m rest) =
    explained_later (error_of x) v vs
    (explained_skipped (error_of x) v.path vs (explained t d e (skip v.path vs) x rest))
