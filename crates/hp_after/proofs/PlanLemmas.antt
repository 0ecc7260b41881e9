-- A walk to a path comes to the plan there, where no fault comes before it.
use Rattle.std.proofs.Common.{◌≡◌, ◌≢◌, ◌⊎◌, ℕ, Bool, true, false, ◌||◌, cond, List, [], ◌∷◌, ◌++◌, Option, Some, None, refl, sym, ap, ◌∙◌, subst, inl, inr}
use Rattle.std.specs.List.{All, AllPairs}
use Rattle.std.proofs.lemmas.List.Elements.{All-nil, All-cons, All-head, All-tail}
use Rattle.hp_laws.proofs.JoinLemmas.{pairs_head, pairs_tail}
use Rattle.hp_laws.proofs.OrderLemmas.{visits_in_order}
use Rattle.hp_laws.specs.TreeLaws.{IsFaultless, IsReached, IsPlanOf, PlanOf, ComesBefore, IsBefore}
use Rattle.hp_net.specs.Standings.{Tree, tree_visits}
use Rattle.hp_passes.specs.Passes.{Turn, On, Past, Last, Passed, pass, is_out, with_made}
use Rattle.hp_syntax.specs.Syntax.{Rule}
use Rattle.hp_syntax.specs.Walk.{Node, Sight, Did, Plan, CutHere, FaultHere, Visit, visit, visits, begins, is_did, is_plan, is_fault_here, heard_visits}
use Rattle.hp_after.specs.declared.reaching.Arrival.{Arrival}
use Rattle.hp_after.specs.declared.reaching.Reached.TheVariants as reached
use Rattle.hp_after.specs.declared.reaching.Side.{Side}
use Rattle.hp_after.specs.declared.reaching.Side.TheVariants as sides
use Rattle.hp_after.specs.Reach.{Coming, ComesToPlan, HoldsPlan, IsArrival, did_turn, nothing_met, plan_turn, reach_turn, reaching, side_of, with_did}
use Rattle.hp_after.proofs.HeardLemmas.{heard_stands}
use Rattle.hp_after.proofs.SideLemmas.{before_apart, earlier_side, here_same, side_same}
use Rattle.hp_after.proofs.TurnSteps.{behind, not_fault, turn_cut, turn_did, turn_fault, turn_plan}

-- ---- what is come to is a plan

-- visits hold a plan at a path, which these follow
abbrev Holds : List ℕ → List Visit → List Visit → Type 0
Holds p vs after = (n : Node) × (before : List Visit) × (vs ≡ before ++ visit p n Plan ∷ after)

holds_on : (p : List ℕ) (v : Visit) (vs after : List Visit) → Holds p vs after → Holds p (v ∷ vs) after
holds_on p v vs after h = (h.0, v ∷ h.1, ap (λ l. v ∷ l) h.2)

-- behind a visit nothing is answered; where it is the last, it is the plan, or isn't told as that
abbrev pub Fits : List ℕ → Visit → Turn Coming → Type 0
Fits p v (On t) = t.answer ≡ reached.Absent
Fits p v (Past t) = t.answer ≡ reached.Absent
Fits p v (Last t) = t.answer ≡ reached.At → (v.sight ≡ Plan) × (v.path ≡ p)

module _ (p : List ℕ) where
  fits_did : (s : Coming) (v : Visit) (x : Side) → s.answer ≡ reached.Absent → Fits p v (did_turn x (with_did s))
  fits_did s v sides.Before a = a
  fits_did s v sides.Above a = a
  fits_did s v sides.Here a = a
  fits_did s v sides.Beyond a = λ h. let f : reached.Absent ≡ reached.At = sym a ∙ h in absurd (cc)

  fits_plan : (s : Coming) (v : Visit) (x : Side) → s.answer ≡ reached.Absent → v.sight ≡ Plan → side_of v.path p ≡ x
      → Fits p v (plan_turn x s)
  fits_plan s v sides.Before a e k = a
  fits_plan s v sides.Above a e k = a
  fits_plan s v sides.Here a e k = λ h. (e, here_same v.path p k)
  fits_plan s v sides.Beyond a e k = a

  pub fits : (s : Coming) (v : Visit) → s.answer ≡ reached.Absent → (x : Sight) → v.sight ≡ x
      → Fits p v (reach_turn p s v)
  fits s v a Did e =
      subst (Fits p v) (sym (turn_did p s v (side_of v.path p) e refl)) (fits_did s v (side_of v.path p) a)
  fits s v a Plan e =
      subst (Fits p v) (sym (turn_plan p s v (side_of v.path p) e refl))
      (fits_plan s v (side_of v.path p) a e refl)
  fits s v a CutHere e = subst (Fits p v) (sym (turn_cut p s v e)) a
  fits s v a (FaultHere f) e =
      subst (Fits p v) (sym (turn_fault p s v f e)) (λ h. absurd (not_fault f h))

  -- what a pass over visits that comes to the plan says of them
  abbrev HoldsIts : List Visit → Passed Coming → Type 0
  HoldsIts vs q = q.knows.answer ≡ reached.At → Holds p vs q.left

  abbrev AllHold : List Visit → Type 0
  AllHold vs =
      (out : Option (List ℕ)) (s : Coming) → s.answer ≡ reached.Absent → HoldsIts vs (pass (reach_turn p) out s vs)

  holds_behind : (v : Visit) (vs : List Visit) → AllHold vs → (x : Turn Coming) → Fits p v x
      → HoldsIts (v ∷ vs) (behind p v vs x)
  holds_behind v vs rest (On t) f h =
      holds_on p v vs (pass (reach_turn p) None t vs).left (rest None t f h)
  holds_behind v vs rest (Past t) f h =
      holds_on p v vs (pass (reach_turn p) (Some v.path) t vs).left (rest (Some v.path) t f h)
  holds_behind v vs rest (Last t) f h =
      let is : v ≡ visit p v.node Plan =
      ap (λ q. visit q v.node v.sight) (f h).1 ∙ ap (visit p v.node) (f h).0 in
      (v.node, [], ap (λ w. w ∷ vs) is)

  holds_by : (out : Option (List ℕ)) (s : Coming) (v : Visit) (vs : List Visit) → AllHold vs
      → s.answer ≡ reached.Absent → (b : Bool)
      → HoldsIts (v ∷ vs)
      (cond b (pass (reach_turn p) out s vs) (with_made v (behind p v vs (reach_turn p s v))))
  holds_by out s v vs rest a true h = holds_on p v vs (pass (reach_turn p) out s vs).left (rest out s a h)
  holds_by out s v vs rest a false h =
      holds_behind v vs rest (reach_turn p s v) (fits s v a v.sight refl) h

  holds : (vs : List Visit) → AllHold vs
  holds [] out s a h = let f : reached.Absent ≡ reached.At = sym a ∙ h in absurd (cc)
  holds (v ∷ vs) out s a h = holds_by out s v vs (holds vs) a (is_out out v) h

-- ---- a plan is come to

-- the visits that come in order
abbrev InOrder : Visit → Visit → Type 0
InOrder v w = IsReached v.sight → IsReached w.sight → ComesBefore v w

-- what a plan stands behind at its own path is a decomposition
plan_of_did : (x y : Sight) → IsPlanOf x y → x ≡ Did
plan_of_did _ _ PlanOf = refl

-- behind a visit the walk goes on, and doesn't leave out what lies at a path
abbrev LeadsOn : List ℕ → Visit → Turn Coming → Type 0
LeadsOn p v (On t) = Unit {0}
LeadsOn p v (Past t) = begins v.path p ≡ false
LeadsOn p v (Last t) = ⊥

abbrev Leads : List ℕ → Visit → Type 0
Leads p v = (s : Coming) → LeadsOn p v (reach_turn p s v)

leads_did : (p : List ℕ) (s : Coming) (v : Visit) (x : Side) → side_of v.path p ≡ x → x ≢ sides.Beyond
    → LeadsOn p v (did_turn x s)
leads_did p s v sides.Before e n = before_apart v.path p e
leads_did p s v sides.Above e n = tt
leads_did p s v sides.Here e n = tt
leads_did p s v sides.Beyond e n = absurd (n refl)

leads_plan : (p : List ℕ) (s : Coming) (v : Visit) (x : Side) → x ≢ sides.Here → LeadsOn p v (plan_turn x s)
leads_plan p s v sides.Before n = tt
leads_plan p s v sides.Above n = tt
leads_plan p s v sides.Here n = absurd (n refl)
leads_plan p s v sides.Beyond n = tt

-- a side that is another one isn't this
other_side : (x y z : Side) → x ≡ y → y ≢ z → x ≢ z
other_side x y z e n = λ h. n (sym e ∙ h)

-- a path in front of another one isn't beyond it
not_beyond : (x : Side) → (x ≡ sides.Before) ⊎ (x ≡ sides.Above) → x ≢ sides.Beyond
not_beyond x (inl e) = other_side x sides.Before sides.Beyond e (λ h. cc)
not_beyond x (inr e) = other_side x sides.Above sides.Beyond e (λ h. cc)

-- nor is it the same
not_here : (x : Side) → (x ≡ sides.Before) ⊎ (x ≡ sides.Above) → x ≢ sides.Here
not_here x (inl e) = other_side x sides.Before sides.Here e (λ h. cc)
not_here x (inr e) = other_side x sides.Above sides.Here e (λ h. cc)

module _ (p : List ℕ) (w : Visit) (plan : w.sight ≡ Plan) (at : w.path ≡ p) where
  -- a decomposition in front of the plan isn't beyond it
  did_side : (v : Visit) → ComesBefore v w → side_of v.path p ≢ sides.Beyond
  did_side v (inl b) =
      not_beyond (side_of v.path p) (earlier_side v.path p (subst (IsBefore v.path) at b))
  did_side v (inr (e, k)) =
      other_side (side_of v.path p) sides.Here sides.Beyond (ap (λ q. side_of q p) (e ∙ at) ∙ side_same p) (λ h. cc)

  -- another plan in front of it isn't at its path
  plan_side : (v : Visit) → v.sight ≡ Plan → ComesBefore v w → side_of v.path p ≢ sides.Here
  plan_side v seen (inl b) =
      not_here (side_of v.path p) (earlier_side v.path p (subst (IsBefore v.path) at b))
  plan_side v seen (inr (e, k)) =
      let f : Plan ≡ Did = sym seen ∙ plan_of_did v.sight w.sight k in absurd (cc)

  reached_plan : IsReached w.sight
  reached_plan = ap (λ x. is_did x || is_plan x) plan

  -- so each visit in front of it leads on
  leads : (v : Visit) → InOrder v w → IsFaultless v.sight → (s : Coming) → (x : Sight) → v.sight ≡ x
      → LeadsOn p v (reach_turn p s v)
  leads v order f s Did e =
      subst (LeadsOn p v) (sym (turn_did p s v (side_of v.path p) e refl))
      (leads_did p (with_did s) v (side_of v.path p) refl
      (did_side v (order (ap (λ x. is_did x || is_plan x) e) reached_plan)))
  leads v order f s Plan e =
      subst (LeadsOn p v) (sym (turn_plan p s v (side_of v.path p) e refl))
      (leads_plan p s v (side_of v.path p)
      (plan_side v e (order (ap (λ x. is_did x || is_plan x) e) reached_plan)))
  leads v order f s CutHere e = subst (LeadsOn p v) (sym (turn_cut p s v e)) tt
  leads v order f s (FaultHere g) e = let k : true ≡ false = sym (ap is_fault_here e) ∙ f in absurd (cc)

  all_lead : (before : List Visit) → All (λ v. InOrder v w) before → All (λ v. IsFaultless v.sight) before
      → All (Leads p) before
  all_lead [] order f = All-nil (Leads p)
  all_lead (v ∷ before) order f =
      All-cons (Leads p) v before
      (λ s. leads v (All-head (λ u. InOrder u w) v before order) (All-head (λ u. IsFaultless u.sight) v before f) s
      v.sight refl)
      (all_lead before (All-tail (λ u. InOrder u w) v before order) (All-tail (λ u. IsFaultless u.sight) v before f))

  module _ (after : List Visit) where
    -- a pass comes to the plan, and leaves what follows it
    abbrev Ends : Passed Coming → Type 0
    Ends q = (q.knows.answer ≡ reached.At) × (q.left ≡ after)

    abbrev AllEnd : List Visit → Type 0
    AllEnd vs = (out : Option (List ℕ)) (s : Coming) → is_out out w ≡ false → Ends (pass (reach_turn p) out s vs)

    ends_behind : (v : Visit) (vs : List Visit) → AllEnd vs → (x : Turn Coming) → LeadsOn p v x
        → Ends (behind p v vs x)
    ends_behind v vs rest (On t) l = rest None t refl
    ends_behind v vs rest (Past t) l = rest (Some v.path) t (ap (begins v.path) at ∙ l)
    ends_behind v vs rest (Last t) l = absurd l

    ends_by : (out : Option (List ℕ)) (s : Coming) (v : Visit) (vs : List Visit) → AllEnd vs → is_out out w ≡ false
        → Leads p v → (b : Bool)
        → Ends (cond b (pass (reach_turn p) out s vs) (with_made v (behind p v vs (reach_turn p s v))))
    ends_by out s v vs rest o l true = rest out s o
    ends_by out s v vs rest o l false = ends_behind v vs rest (reach_turn p s v) (l s)

    ends_here : (out : Option (List ℕ)) (s : Coming) (b : Bool) → b ≡ false
        → Ends (cond b (pass (reach_turn p) out s after) (with_made w (behind p w after (reach_turn p s w))))
    ends_here out s true o = let k : true ≡ false = o in absurd (cc)
    ends_here out s false o =
        subst (λ x. Ends (behind p w after x))
        (sym (turn_plan p s w sides.Here plan (ap (λ q. side_of q p) at ∙ side_same p))) (refl, refl)

    ends : (before : List Visit) → All (Leads p) before → AllEnd (before ++ w ∷ after)
    ends [] a out s o = ends_here out s (is_out out w) o
    ends (v ∷ before) a out s o =
        ends_by out s v (before ++ w ∷ after) (ends before (All-tail (Leads p) v before a)) o
        (All-head (Leads p) v before a) (is_out out v)

-- what holds of all holds of one in their midst
pub in_midst : (P : Visit → Type 0) (before : List Visit) (v : Visit) (after : List Visit)
    → All P (before ++ v ∷ after) → P v
in_midst P [] v after a = All-head P v after a
in_midst P (u ∷ before) v after a = in_midst P before v after (All-tail P u (before ++ v ∷ after) a)

-- what holds of any two visits, of which one comes later, holds of those before one in their midst
in_front : (R : Visit → Visit → Type 0) (before : List Visit) (w : Visit) (after : List Visit)
    → AllPairs R (before ++ w ∷ after) → All (λ v. R v w) before
in_front R [] w after h = All-nil (λ v. R v w)
in_front R (v ∷ before) w after h =
    All-cons (λ u. R u w) v before
    (in_midst (R v) before w after (pairs_head R v (before ++ w ∷ after) h))
    (in_front R before w after (pairs_tail R v (before ++ w ∷ after) h))

found : (p : List ℕ) (vs : List Visit) → AllPairs InOrder vs → (n : Node) (before after : List Visit)
    → vs ≡ before ++ visit p n Plan ∷ after → All (λ v. IsFaultless v.sight) before
    → ((reaching p vs).knows.answer ≡ reached.At) × ((reaching p vs).left ≡ after)
found p vs order n before after e faultless =
    let w = visit p n Plan in
    let ordered : All (λ v. InOrder v w) before = in_front InOrder before w after (subst (AllPairs InOrder) e order) in
    subst (λ us. ((reaching p us).knows.answer ≡ reached.At) × ((reaching p us).left ≡ after)) (sym e)
    (ends p w refl refl after before (all_lead p w refl refl before ordered faultless) None nothing_met refl)

-- so a walk to a path comes to the plan that a tree holds there, where no fault comes before it
pub comes_to_plan : (rules : List Rule) (nest : ℕ) (root : Node) (p : List ℕ)
    → ComesToPlan p (visits rules nest root [])
comes_to_plan rules nest root p = record {
  found =
      λ n before after e f.
      found p (visits rules nest root []) (visits_in_order rules nest root) n before after e f;
  only = λ h. holds p (visits rules nest root []) None nothing_met refl h;
}

module _ (t : Tree) (p : List ℕ) (a : Arrival) (arrival : IsArrival a p (tree_visits t)) where
  -- so it is told to be at the plan that is heard there
  pub told_found : HoldsPlan p (heard_visits (tree_visits t)) → a.answer ≡ reached.At
  told_found h =
      let m = heard_stands (tree_visits t) h.1 (visit p h.0 Plan) h.2 h.3 in
      arrival.answer
      ∙ ((comes_to_plan t.rules t.nest t.root p).found h.0 h.1 m.after m.whole m.faultless).0

  -- and what it is told to be at is a plan
  pub told_only : a.answer ≡ reached.At → HoldsPlan p (tree_visits t)
  told_only h =
      let plan = (comes_to_plan t.rules t.nest t.root p).only (sym arrival.answer ∙ h) in
      (plan.0, plan.1, (reaching p (tree_visits t)).left, plan.2)
