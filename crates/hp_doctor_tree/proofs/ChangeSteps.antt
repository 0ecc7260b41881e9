-- The path of a way, and the changes along it.
use Rattle.std.proofs.Common.{◌≡◌, ℕ, zero, suc, Bool, true, false, cond, List, [], ◌∷◌, map, slice_get, Some, Result, Ok, Err, Vec, sym, ◌∙◌, subst}
use Rattle.std.specs.Global.{Global}
use Rattle.std.specs.Prelude.{Contains, IfOk, MatchOption, filter}
use Rattle.hp_changes.specs.Changes.{changed_of}
use Rattle.hp_changes.specs.Changing.{AreAlong, Heard, Reached}
use Rattle.hp_changes.specs.declared.comparing.Changed as made
use Rattle.hp_dead_ends.proofs.ArrivingSteps.{told_small}
use Rattle.hp_dead_ends.specs.Arriving.{is_small}
use Rattle.hp_laws.proofs.JoinLemmas.{contains_first, contains_later}
use Rattle.hp_syntax.specs.Syntax.{Rule}
use Rattle.hp_syntax.specs.Walk.{Node, Visit, heard_visits, is_plan, told, visits}
use Rattle.hp_way.specs.Counting.{plan_numbered}
use Rattle.hp_way.specs.Ways.{Deed, IsPathOfPlan, IsWay, IsWayOfPlan, IsToldOf, LeadAlong, LeadToPlan, LeadToNumbered, deed_of, tree_of}
use Rattle.hp_way.specs.declared.ways.Deed as deeds
use Rattle.hp_way.specs.declared.ways.Way.{Way}
use Rattle.hp_way.specs.declared.ways.Way.TheVariants as ways
use Rattle.hp_doctor_tree.specs.TreeTold.{AreChangesOf, HasChanges, IsPathOfWay, LeadsThere}

-- what follows from two facts of a value holds of it
pub if_both : {A E : Type 0} (r : Result A E) (P Q R : A → Type 0) → ((x : A) → P x → Q x → R x) → IfOk r P → IfOk r Q
    → IfOk r R
if_both (Ok x) P Q R f h k = f x h k
if_both (Err e) P Q R f h k = tt

-- what passes a test at a place is among all
passed_within : (p : Visit → Bool) (vs : List Visit) (i : ℕ) (v : Visit) → slice_get (filter p vs) i ≡ Some v
    → Contains vs v
passed_within p [] i v e = absurd (cc)
passed_within p (w ∷ vs) i v e = by (passed_within p vs) (p w) i e
  where
    by : ((i : ℕ) (v : Visit) → slice_get (filter p vs) i ≡ Some v → Contains vs v) → (b : Bool) → (i : ℕ)
        → slice_get (cond b (w ∷ filter p vs) (filter p vs)) i ≡ Some v → Contains (w ∷ vs) v
    by deep true zero h = let same : w ≡ v = cc in subst (Contains (w ∷ vs)) same (contains_first w vs)
    by deep true (suc i) h = contains_later w v vs (deep i v h)
    by deep false i h = contains_later w v vs (deep i v h)

-- so is the plan of a number among the visits before any fault
plan_heard : (number : ℕ) (vs : List Visit) (v : Visit) → plan_numbered number vs ≡ Some v
    → Contains (heard_visits vs) v
plan_heard zero vs v e = absurd (cc)
plan_heard (suc i) vs v e = passed_within (λ w. is_plan w.sight) (heard_visits vs) i v e

module _ (rules : List Rule) (nest : ℕ) (root : Node) where
  leads_at : (path : List ℕ) (ds : List Deed) → LeadToPlan rules nest root path ds → LeadsThere rules nest root ds path
  leads_at path ds h = record { node = h.node; lead = h.lead; met = Reached h.answer }

  -- the path that is asked for is that of the way
  pub path_asked : (w : Way) (path own : List ℕ) → own ≡ path → IsWay rules nest root path w
      → IsPathOfWay rules nest root w own
  path_asked (ways.Plan ds) path own e h =
      λ small. subst (LeadsThere rules nest root (map deed_of ds.items)) (sym e)
      (leads_at path (map deed_of ds.items) h)
  path_asked ways.Absent path own e h = tt
  path_asked (ways.Fault f) path own e h = tt

  leads_numbered : (number : ℕ) (path : List ℕ) (ds : List Deed) → LeadToNumbered rules nest root number ds
      → IsToldOf (plan_numbered number (visits rules nest root [])) path → is_small path ≡ true
      → LeadsThere rules nest root ds path
  leads_numbered number path ds h t small =
      let is_told : path ≡ told h.plan.path =
      subst (λ o. MatchOption o ⊥ (λ v. path ≡ told v.path)) h.is t in
      let same : h.plan.path ≡ path =
      told_small h.plan.path (subst (λ q. is_small q ≡ true) is_told small) ∙ sym is_told in
      record {
        node = h.plan.node;
        lead = subst (λ q. LeadAlong rules nest ds q root h.plan.node) same h.lead;
        met = Heard h.plan (plan_heard number (visits rules nest root []) h.plan h.is) same;
      }

  -- so is that of the plan of a number
  pub path_numbered : (w : Way) (number : ℕ) (path : List ℕ) → IsWayOfPlan rules nest root number w
      → IsPathOfPlan rules nest root number w path → IsPathOfWay rules nest root w path
  path_numbered (ways.Plan ds) number path h t = leads_numbered number path (map deed_of ds.items) h t
  path_numbered ways.Absent number path h t = tt
  path_numbered (ways.Fault f) number path h t = tt

  -- the changes along the path of a way are those of its deeds
  changes_by : (path : List ℕ) (ds : List Deed) (cs : List made.Changed)
      → (is_small path ≡ true → LeadsThere rules nest root ds path)
      → AreAlong (tree_of rules nest root) path cs → AreChangesOf rules nest root ds (map changed_of cs)
  changes_by path ds cs h a =
      let there = h a.small in
      record { path = path; node = there.node; lead = there.lead; are = a.are there.met }

  pub changes_planned : (ds : Vec deeds.Deed Global) (w : Way) → w ≡ ways.Plan ds → (asked : Bool) → asked ≡ true
      → (path own : List ℕ) → own ≡ path → (cs : List made.Changed) → IsPathOfWay rules nest root w path
      → AreAlong (tree_of rules nest root) own cs → HasChanges rules nest root asked w (map changed_of cs)
  changes_planned ds w e asked a path own same cs h k =
      subst (λ x. HasChanges rules nest root x w (map changed_of cs)) (sym a)
      (subst (λ x. HasChanges rules nest root true x (map changed_of cs)) (sym e)
      (changes_by path (map deed_of ds.items) cs (subst (λ x. IsPathOfWay rules nest root x path) e h)
      (subst (λ q. AreAlong (tree_of rules nest root) q cs) same k)))
