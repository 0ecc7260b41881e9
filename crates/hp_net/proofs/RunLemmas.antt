-- The visits of lists of calls.
use Rattle.std.proofs.Common.{◌≡◌, ℕ, Bool, true, false, cond, List, [], ◌∷◌, ◌++◌, ◌⊎◌, inl, inr, Option, Some, None, refl, sym, ◌∙◌, subst}
use Rattle.std.proofs.lemmas.Bool.{false≢true}
use Rattle.hp_syntax.specs.Walk.{Sight, Visit, Did, Plan, CutHere, FaultHere, is_did, is_fault_here, begins, skip, heard_visits}
use Rattle.hp_net.specs.Standings.{Standing, standing, next_below, next_of, arrived, left_after}
use Rattle.hp_net.specs.Runs.{Call, Step, Back, Next, Prune, after_call, MayRun, after_calls, visited, with_visit, LeavesOut, Nothing, Visits, Faults, Prunes}

-- the visits come from a place, whether what lies below the node reached there is pruned or not
abbrev Comes : Standing → List Visit → Type 0
Comes s ws = LeavesOut s.rest ws ⊎ ((s.at_did ≡ true) × LeavesOut (skip s.path s.rest) ws)

-- a visit with what is heard behind it leaves nothing out, whether it is a fault or not
leaves_with : (v : Visit) (vs : List Visit) → LeavesOut vs (heard_visits vs) → (b : Bool)
    → is_fault_here v.sight ≡ b → LeavesOut (v ∷ vs) (v ∷ cond b [] (heard_visits vs))
leaves_with v vs h true e = Faults v vs e
leaves_with v vs h false e = Visits v vs (heard_visits vs) e h

-- a list up to its first fault leaves nothing out
leaves_heard : (vs : List Visit) → LeavesOut vs (heard_visits vs)
leaves_heard [] = Nothing
leaves_heard (v ∷ vs) = leaves_with v vs (leaves_heard vs) (is_fault_here v.sight) refl

-- of nothing, nothing is left
of_nothing : (ws : List Visit) → LeavesOut [] ws → ws ≡ []
of_nothing [] h = refl
of_nothing (w ∷ ws) h = elim h [ ]

-- a decomposition is no fault
did_is_no_fault : (x : Sight) → is_did x ≡ true → is_fault_here x ≡ true → ⊥
did_is_no_fault Did d e = false≢true e
did_is_no_fault Plan d e = false≢true d
did_is_no_fault CutHere d e = false≢true d
did_is_no_fault (FaultHere f) d e = false≢true d

-- the visits from the place that a visit leads to come, with the visit, from the place before
visits : (v : Visit) (vs ws : List Visit) → Comes (standing v.path (left_after v vs) (is_did v.sight)) ws
    → LeavesOut (v ∷ vs) (v ∷ ws)
visits v vs ws h = by (is_fault_here v.sight) refl h
  where
    by : (b : Bool) → is_fault_here v.sight ≡ b → Comes (standing v.path (cond b [] vs) (is_did v.sight)) ws
        → LeavesOut (v ∷ vs) (v ∷ ws)
    by true e (inl k) = subst (λ us. LeavesOut (v ∷ vs) (v ∷ us)) (sym (of_nothing ws k)) (Faults v vs e)
    by true e (inr (d, k)) = absurd (did_is_no_fault v.sight d e)
    by false e (inl k) = Visits v vs ws e k
    by false e (inr (d, k)) = Prunes v vs ws d k

-- a call that made the next visit, or none, and what comes after it
arrives : (p : List ℕ) (o : Option Visit) (vs xs ys : List Visit) → (o ≡ None) ⊎ (o ≡ next_of vs)
    → Comes (arrived p o vs) (xs ++ ys) → LeavesOut vs (with_visit o xs ++ ys)
arrives p None vs xs ys k (inl h) = h
arrives p None vs xs ys k (inr h) = let never : false ≡ true = h.0 in absurd (cc)
arrives p (Some v) [] xs ys (inl e) h = absurd (cc)
arrives p (Some v) [] xs ys (inr e) h = absurd (cc)
arrives p (Some v) (w ∷ vs) xs ys (inl e) h = absurd (cc)
arrives p (Some v) (w ∷ vs) xs ys (inr e) h =
    let same : w ≡ v = cc in
    subst (λ u. LeavesOut (u ∷ vs) (v ∷ xs ++ ys)) (sym same) (visits v vs (xs ++ ys) h)

-- the next visit below a node is none, or the next
next_or_none : (p : List ℕ) (vs : List Visit) → (next_below p vs ≡ None) ⊎ (next_below p vs ≡ next_of vs)
next_or_none p [] = inl refl
next_or_none p (v ∷ vs) =
    elim (begins p v.path) as (λ b. (cond b (Some v) None ≡ None) ⊎ (cond b (Some v) None ≡ Some v))
    [ true ↦ inr refl | false ↦ inl refl ]

-- whatever calls are made, they visit what isn't pruned
comes : (cs : List Call) (s : Standing) → MayRun cs s
    → Comes s (visited cs s ++ heard_visits (after_calls cs s).rest)
comes [] s h = inl (leaves_heard s.rest)
comes (Step ∷ cs) s h =
    inl (arrives s.path (next_below s.path s.rest) s.rest (visited cs (after_call Step s))
    (heard_visits (after_calls cs (after_call Step s)).rest) (next_or_none s.path s.rest)
    (comes cs (after_call Step s) h.1))
comes (Next ∷ cs) s h =
    inl (arrives [] (next_of s.rest) s.rest (visited cs (after_call Next s))
    (heard_visits (after_calls cs (after_call Next s)).rest) (inr refl) (comes cs (after_call Next s) h.1))
comes (Back ∷ cs) s h = elim (comes cs (after_call Back s) h.1) [
  | inl k ↦ inl k
  | inr (d, k) ↦ let never : false ≡ true = d in absurd (cc)
]
comes (Prune ∷ cs) s h = elim (comes cs (after_call Prune s) h.1) [
  | inl k ↦ inr (h.0, k)
  | inr (d, k) ↦ let never : false ≡ true = d in absurd (cc)
]

-- from a place where nothing is to be pruned, they visit what isn't pruned later
pub calls_visit : (cs : List Call) (s : Standing) → s.at_did ≡ false → MayRun cs s
    → LeavesOut s.rest (visited cs s ++ heard_visits (after_calls cs s).rest)
calls_visit cs s f h = elim (comes cs s h) [
  | inl k ↦ k
  | inr (d, k) ↦ let never : false ≡ true = sym f ∙ d in absurd (cc)
]
