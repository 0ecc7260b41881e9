-- Facts of a search for a plan within so many decompositions.
use Rattle.std.proofs.Common.{◌≡◌, ℕ, zero, suc, true, false, List, [], ◌∷◌, Some, MatchOption, refl, sym, ap, ◌∙◌, subst}
use Rattle.std.specs.List.{All, find}
use Rattle.std.proofs.lemmas.List.Elements.{All-head, All-tail}
use Rattle.hp_net.specs.Standings.{Tree, Standing, IsAtItsNode, node_reached}
use Rattle.hp_passes.specs.declared.passing.Stop.{Stop}
use Rattle.hp_passes.specs.declared.passing.Stop.TheVariants as stops
use Rattle.hp_passes.specs.Passing.{Passes, AtEnd, GoesOn, LeavesOut, Ends, Stops, Between, Within, AfterOne, AfterPart, at_end, at_visit}
use Rattle.hp_syntax.specs.declared.fault.RunFault.{RunFault}
use Rattle.hp_syntax.specs.Walk.{Sight, Visit, Did, Plan, CutHere, FaultHere, is_did}
use Rattle.hp_embedding.specs.declared.budget.SearchError.{SearchError}
use Rattle.hp_embedding.specs.declared.budget.SearchError.TheVariants as errors
use Rattle.hp_embedding.specs.declared.limited.Limited.{Limited}
use Rattle.hp_embedding.specs.declared.limited.SearchEnd.{SearchEnd}
use Rattle.hp_embedding.specs.declared.limited.SearchEnd.TheVariants as ends
use Rattle.hp_embedding.specs.Budgets.{Explains}
use Rattle.hp_embedding.specs.Limits as limits
use Rattle.hp_embedding.specs.Limits.{within, is_plan_here, IsLast, meets_limited, fails_limited}
use Rattle.hp_embedding.proofs.BudgetSteps.{explained_later, explained_here}

-- ---- visits within a number of decompositions

none_within : (n : ℕ) → within n [] ≡ []
none_within zero = refl
none_within (suc n) = refl

-- a visit that is no decomposition counts for nothing
others_within : (n : ℕ) (v : Visit) (vs : List Visit) → is_did v.sight ≡ false
    → within n (v ∷ vs) ≡ v ∷ within n vs
others_within zero v vs e = rw e refl
others_within (suc n) v vs e = rw e refl

did_within : (n m : ℕ) (v : Visit) (vs : List Visit) → v.sight ≡ Did → n ≡ suc m
    → within n (v ∷ vs) ≡ v ∷ within m vs
did_within n m v vs e h = ap (λ k. within k (v ∷ vs)) h ∙ (rw e refl)

-- ---- the whole search

same_rest : (v : Visit) (vs ws : List Visit) → v ∷ vs ≡ v ∷ ws → vs ≡ ws
same_rest v vs ws e = cc

-- a search ends as it does over the later visits, where the first one is no plan
ends_later : (x : SearchEnd) (t : Tree) (there : Standing) (n m : ℕ) (v : Visit) (vs : List Visit)
    → is_plan_here v ≡ false → within n (v ∷ vs) ≡ v ∷ within m vs → limits.Ends x t there m vs
    → limits.Ends x t there n (v ∷ vs)
ends_later x t there n m v vs other e h = by x h
  where
    found : find is_plan_here (within n (v ∷ vs)) ≡ find is_plan_here (within m vs)
    found = ap (find is_plan_here) e ∙ (rw other refl)

    by : (y : SearchEnd) → limits.Ends y t there m vs → limits.Ends y t there n (v ∷ vs)
    by ends.Found k =
        subst (λ o. MatchOption o ⊥ (λ w. (there.path ≡ w.path) × (node_reached t there ≡ Some w.node))) (sym found) k
    by ends.NoPlan k = (found ∙ k.0, e ∙ ap (λ ws. v ∷ ws) k.1)
    by ends.Spent k = (found ∙ k.0, λ same. k.1 (same_rest v (within m vs) vs (sym e ∙ same)))

-- a search ends at its last visit
ends_here : (x : SearchEnd) (t : Tree) (n : ℕ) (v : Visit) (vs : List Visit) → IsAtItsNode t v → IsLast n v x
    → limits.Ends x t (at_visit v vs) n (v ∷ vs)
ends_here ends.Found t n v vs at h =
    let other : is_did v.sight ≡ false = rw h refl in
    let plan : is_plan_here v ≡ true = rw h refl in
    let first : find is_plan_here (within n (v ∷ vs)) ≡ Some v =
    ap (find is_plan_here) (others_within n v vs other) ∙ (rw plan refl) in
    subst (λ o. MatchOption o ⊥ (λ w. (v.path ≡ w.path) × (node_reached t (at_visit v vs) ≡ Some w.node)))
    (sym first) (refl, at)
ends_here ends.NoPlan t n v vs at h = absurd h
ends_here ends.Spent t n v vs at h =
    let none : within n (v ∷ vs) ≡ [] = ap (λ k. within k (v ∷ vs)) h.1 ∙ (rw h.0 refl) in
    (ap (find is_plan_here) none, λ same. let f : [] ≡ v ∷ vs = sym none ∙ same in cc)

-- a search that may make so many decompositions more ends as it is asked
pub ends_so : (n : ℕ) (t : Tree) (s u : Limited) (c e : Unit {0}) (vs : List Visit) (there : Standing) → s.left ≡ n
    → s.end ≡ ends.NoPlan → All (IsAtItsNode t) vs → Passes meets_limited s c vs u e there
    → limits.Ends u.end t there n vs
ends_so n t _ _ _ _ _ _ left none all (AtEnd s c) =
    subst (λ x. limits.Ends x t at_end n []) (sym none)
    (ap (find is_plan_here) (none_within n), none_within n)
ends_so n t _ _ _ _ _ _ left none all (GoesOn s r u c d e v vs there m rest) =
    by v.sight refl m (λ k l h. ends_so k t r u d e vs there l h (All-tail (IsAtItsNode t) v vs all) rest)
  where
    by : (x : Sight) → v.sight ≡ x → limits.GoesOn s x r
        → ((k : ℕ) → r.left ≡ k → r.end ≡ ends.NoPlan → limits.Ends u.end t there k vs)
        → limits.Ends u.end t there n (v ∷ vs)
    by Did h k later =
        ends_later u.end t there n r.left v vs (rw h refl) (did_within n r.left v vs h (sym left ∙ k.0))
        (later r.left refl (k.1 ∙ none))
    by Plan h k later = absurd k
    by CutHere h k later =
        ends_later u.end t there n n v vs (rw h refl) (others_within n v vs (rw h refl))
        (later n (ap (λ z. z.left) k ∙ left) (ap (λ z. z.end) k ∙ none))
    by (FaultHere f) h k later = absurd k
ends_so n t _ _ _ _ _ _ left none all (LeavesOut s r u c d e v vs there m rest) = absurd m
ends_so n t _ _ _ _ _ _ left none all (Ends s r c d v vs m) =
    ends_here r.end t n v vs (All-head (IsAtItsNode t) v vs all) (subst (λ k. IsLast k v r.end) left m)

-- why a search stops
abbrev pub error_of : Stop RunFault → SearchError
error_of stops.NoMemory = errors.NoMemory
error_of (stops.Failed f) = errors.Fault f

-- a search that stops at a fault has met it within so many decompositions
pub explained : (n : ℕ) (s : Limited) (c e : Unit {0}) (vs : List Visit) (x : Stop RunFault) → s.left ≡ n
    → Stops meets_limited fails_limited s c vs x e → Explains (error_of x) (within n vs)
explained n _ _ _ _ _ left (Between s c vs) = tt
explained n _ _ _ _ _ left (Within s c d v vs f m) =
    subst (Explains (errors.Fault f)) (sym (others_within n v vs (rw m refl)))
    (explained_here (errors.Fault f) v (within n vs) m)
explained n _ _ _ _ _ left (AfterOne s r c d e v vs x m rest) =
    by v.sight refl m (λ k l. explained k r d e vs x l rest)
  where
    by : (y : Sight) → v.sight ≡ y → limits.GoesOn s y r
        → ((k : ℕ) → r.left ≡ k → Explains (error_of x) (within k vs))
        → Explains (error_of x) (within n (v ∷ vs))
    by Did h k later =
        subst (Explains (error_of x)) (sym (did_within n r.left v vs h (sym left ∙ k.0)))
        (explained_later (error_of x) v (within r.left vs) (later r.left refl))
    by Plan h k later = absurd k
    by CutHere h k later =
        subst (Explains (error_of x)) (sym (others_within n v vs (rw h refl)))
        (explained_later (error_of x) v (within n vs) (later n (ap (λ z. z.left) k ∙ left)))
    by (FaultHere f) h k later = absurd k
explained n _ _ _ _ _ left (AfterPart s r c d e v vs x m rest) = absurd m
