-- Facts of a walk to the plan of a number.
use Rattle.std.proofs.Common.{◌≡◌, ◌≢◌, ℕ, zero, suc, ◌-◌, false, List, [], ◌∷◌, Option, Some, None, MatchOption, refl, sym, ap, ◌∙◌, subst, arith}
use Rattle.std.specs.List.{All, find}
use Rattle.std.proofs.lemmas.List.Elements.{All-head, All-tail}
use Rattle.hp_after.specs.declared.reaching.Reached.{Reached}
use Rattle.hp_after.specs.declared.reaching.Reached.TheVariants as reached
use Rattle.hp_net.specs.Standings.{Tree, Standing, IsAtItsNode, tree_visits}
use Rattle.hp_passes.specs.Passing.{Passes, AtEnd, GoesOn, LeavesOut, Ends, at_end, at_visit}
use Rattle.hp_syntax.specs.declared.fault.RunFault.{RunFault}
use Rattle.hp_syntax.specs.Walk.{Sight, Visit, Did, Plan, CutHere, FaultHere, is_fault_here, is_plan, told}
use Rattle.hp_way.specs.declared.plans.Counting.{Counting}
use Rattle.hp_way.specs.declared.ways.Way.{Way}
use Rattle.hp_way.specs.declared.ways.Way.TheVariants as ways
use Rattle.hp_way.specs.Ways.{IsPathOf, IsPathOfPlan, IsToldOf, StandsAtNumbered}
use Rattle.hp_way.specs.Counting as counting
use Rattle.hp_way.specs.Counting.{ComesTo, IsLast, StandsAtPlan, meets_counting, plan_numbered}

-- ---- numbers of plans

none_numbered : (n : ℕ) → plan_numbered n [] ≡ None
none_numbered zero = refl
none_numbered (suc i) = refl

-- a visit that is neither a plan nor a fault counts for nothing
others_numbered : (n : ℕ) (v : Visit) (vs : List Visit) → is_plan v.sight ≡ false → is_fault_here v.sight ≡ false
    → plan_numbered n (v ∷ vs) ≡ plan_numbered n vs
others_numbered zero v vs plan fault = refl
others_numbered (suc i) v vs plan fault = rw (fault, plan) refl

-- the plan of a number is the one before it among those that come after a plan
later_numbered : (n : ℕ) (v : Visit) (vs : List Visit) → v.sight ≡ Plan → n ≢ 1
    → plan_numbered n (v ∷ vs) ≡ plan_numbered (n - 1) vs
later_numbered zero v vs e other = refl
later_numbered (suc zero) v vs e other = absurd (other refl)
later_numbered (suc (suc i)) v vs e other =
    let less : suc i ≡ suc (suc i) - 1 = omega arith in
    let here : plan_numbered (suc (suc i)) (v ∷ vs) ≡ plan_numbered (suc i) vs = rw e refl in
    here ∙ ap (λ k. plan_numbered k vs) less

first_numbered : (v : Visit) (vs : List Visit) → v.sight ≡ Plan → plan_numbered 1 (v ∷ vs) ≡ Some v
first_numbered v vs e = rw e refl

-- after a fault no plan is counted
faulty_numbered : (n : ℕ) (v : Visit) (vs : List Visit) (f : RunFault) → v.sight ≡ FaultHere f
    → plan_numbered n (v ∷ vs) ≡ None
faulty_numbered zero v vs f e = refl
faulty_numbered (suc i) v vs f e = rw e refl

-- ---- the whole walk

-- a walk comes to what it does over the later visits, where the first one is no fault
comes_later : (a : Reached) (t : Tree) (there : Standing) (n m : ℕ) (v : Visit) (vs : List Visit)
    → is_fault_here v.sight ≡ false → plan_numbered n (v ∷ vs) ≡ plan_numbered m vs → ComesTo a t there m vs
    → ComesTo a t there n (v ∷ vs)
comes_later a t there n m v vs faultless e h = by a h
  where
    found : find (λ w. is_fault_here w.sight) (v ∷ vs) ≡ find (λ w. is_fault_here w.sight) vs
    found = rw faultless refl

    by : (b : Reached) → ComesTo b t there m vs → ComesTo b t there n (v ∷ vs)
    by reached.At k = record { plan = k.plan; is = e ∙ k.is; path = k.path; node = k.node }
    by reached.Absent k = (e ∙ k.0, found ∙ k.1)
    by (reached.Fault f) k =
        (e ∙ k.0, subst (λ o. MatchOption o ⊥ (λ w. w.sight ≡ FaultHere f)) (sym found) k.1)

-- a walk comes to what its last visit is
comes_here : (a : Reached) (t : Tree) (n : ℕ) (v : Visit) (vs : List Visit) → IsAtItsNode t v → IsLast n v a
    → ComesTo a t (at_visit v vs) n (v ∷ vs)
comes_here reached.At t n v vs at h = record {
  plan = v;
  is = subst (λ k. plan_numbered k (v ∷ vs) ≡ Some v) (sym h.1) (first_numbered v vs h.0);
  path = refl;
  node = at;
}
comes_here reached.Absent t n v vs at h = absurd h
comes_here (reached.Fault f) t n v vs at h =
    let found : find (λ w. is_fault_here w.sight) (v ∷ vs) ≡ Some v = rw h refl in
    (faulty_numbered n v vs f h, subst (λ o. MatchOption o ⊥ (λ w. w.sight ≡ FaultHere f)) (sym found) h)

-- a walk that has counted so far comes to the plan of the number that is left
pub comes_so : (n : ℕ) (t : Tree) (s u : Counting) (c e : Unit {0}) (vs : List Visit) (there : Standing)
    → s.left ≡ n → s.answer ≡ reached.Absent → All (IsAtItsNode t) vs → Passes meets_counting s c vs u e there
    → ComesTo u.answer t there n vs
comes_so n t _ _ _ _ _ _ left none all (AtEnd s c) =
    subst (λ x. ComesTo x t at_end n []) (sym none) (none_numbered n, refl)
comes_so n t _ _ _ _ _ _ left none all (GoesOn s r u c d e v vs there m rest) =
    by v.sight refl m (λ k l h. comes_so k t r u d e vs there l h (All-tail (IsAtItsNode t) v vs all) rest)
  where
    by : (x : Sight) → v.sight ≡ x → counting.GoesOn s x r
        → ((k : ℕ) → r.left ≡ k → r.answer ≡ reached.Absent → ComesTo u.answer t there k vs)
        → ComesTo u.answer t there n (v ∷ vs)
    by Did h k later =
        comes_later u.answer t there n n v vs (rw h refl) (others_numbered n v vs (rw h refl) (rw h refl))
        (later n (ap (λ z. z.left) k ∙ left) (ap (λ z. z.answer) k ∙ none))
    by Plan h k later =
        comes_later u.answer t there n (n - 1) v vs (rw h refl)
        (later_numbered n v vs h (λ one. k.0 (left ∙ one)))
        (later (n - 1) (k.1 ∙ ap (λ i. i - 1) left) (k.2 ∙ none))
    by CutHere h k later =
        comes_later u.answer t there n n v vs (rw h refl) (others_numbered n v vs (rw h refl) (rw h refl))
        (later n (ap (λ z. z.left) k ∙ left) (ap (λ z. z.answer) k ∙ none))
    by (FaultHere f) h k later = absurd k
comes_so n t _ _ _ _ _ _ left none all (LeavesOut s r u c d e v vs there m rest) = absurd m
comes_so n t _ _ _ _ _ _ left none all (Ends s r c d v vs m) =
    comes_here r.answer t n v vs (All-head (IsAtItsNode t) v vs all) (subst (λ k. IsLast k v r.answer) left m)

-- ---- the path of the plan

told_path : (o : Option Visit) (stands path : List ℕ) → IsPathOf o stands → path ≡ told stands → IsToldOf o path
told_path None stands path h e = h
told_path (Some v) stands path h e = e ∙ ap told h

-- where a walk stands at the plan of a number, its path is that of the plan
pub numbered_path : (t : Tree) (number : ℕ) (w : Way) (stands path : List ℕ)
    → StandsAtNumbered w number (tree_visits t) stands → path ≡ told stands
    → IsPathOfPlan t.rules t.nest t.root number w path
numbered_path t number (ways.Plan ds) stands path h e =
    told_path (plan_numbered number (tree_visits t)) stands path h e
numbered_path t number ways.Absent stands path h e = tt
numbered_path t number (ways.Fault f) stands path h e = tt
