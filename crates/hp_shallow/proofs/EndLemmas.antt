-- What the end of visits of which one plan is asked says of what is seen at them.
use Rattle.std.proofs.Common.{◌≡◌, ◌≢◌, ℕ, ◌+◌, Bool, true, false, nat_le, List, [], ◌∷◌, refl, sym, ap, ◌∙◌}
use Rattle.std.specs.List.{All}
use Rattle.std.specs.Prelude.{Contains}
use Rattle.std.proofs.lemmas.Bool.{cond-true}
use Rattle.std.proofs.lemmas.List.Elements.{All-nil, All-cons}
use Rattle.hp_laws.proofs.JoinLemmas.{contains_first, contains_later}
use Rattle.hp_laws.specs.TreeLaws.{IsReached}
use Rattle.hp_syntax.specs.Report.{Tally, Stopped, AtFault, AtCut, AtEnd, Ended, ended, end_of, nothing_seen, quiet_ending, with_cut, with_did, with_plan}
use Rattle.hp_syntax.specs.Walk.{Node, Sight, Did, Plan, CutHere, FaultHere, Visit, visit, heard_visits}
use Rattle.hp_shallow.proofs.WalkSteps.{one_asked}
use Rattle.hp_shallow.specs.LeastDepth.{first_end}

-- visits end at the first plan
stops : (t : Tally) (q : List ℕ) (n : Node) (vs : List Visit) → t.plans ≡ 0
    → (end_of 1 t (visit q n Plan ∷ vs)).ending ≡ Stopped
stops t q n vs none =
    ap (λ (x : Ended). x.ending)
    (cond-true (nat_le 1 (t.plans + 1)) (ended Stopped (with_plan t)) (end_of 1 (with_plan t) vs)
    (one_asked t.plans none))

-- without a plan and a fault they don't
quiet_stops : (b : Bool) → quiet_ending b ≡ Stopped → ⊥
quiet_stops true e = cc
quiet_stops false e = cc

-- ---- visits that end at a plan hold one

abbrev pub HoldsPlan : List Visit → Type 0
HoldsPlan vs = (v : Visit) × Contains vs v × (v.sight ≡ Plan)

later : (v : Visit) (vs : List Visit) → HoldsPlan vs → HoldsPlan (v ∷ vs)
later v vs h = (h.0, contains_later v h.0 vs h.1, h.2)

plan_from : (t : Tally) (q : List ℕ) (n : Node) (x : Sight) (vs : List Visit)
    → ((t : Tally) → (end_of 1 t vs).ending ≡ Stopped → HoldsPlan (heard_visits vs))
    → (end_of 1 t (visit q n x ∷ vs)).ending ≡ Stopped → HoldsPlan (heard_visits (visit q n x ∷ vs))
plan_from t q n Did vs others e = later (visit q n Did) (heard_visits vs) (others (with_did t) e)
plan_from t q n Plan vs others e = (visit q n Plan, contains_first (visit q n Plan) (heard_visits vs), refl)
plan_from t q n CutHere vs others e = later (visit q n CutHere) (heard_visits vs) (others (with_cut t) e)
plan_from t q n (FaultHere f) vs others e = let never : AtFault f ≡ Stopped = e in absurd (cc)

plan_held : (t : Tally) (vs : List Visit) → (end_of 1 t vs).ending ≡ Stopped → HoldsPlan (heard_visits vs)
plan_held t [] e = absurd (quiet_stops t.is_cut e)
plan_held t (v ∷ vs) e = plan_from t v.path v.node v.sight vs (λ u. plan_held u vs) e

-- so where they do, one of them up to the first fault is a plan
pub holds_plan : (vs : List Visit) → (first_end vs).ending ≡ Stopped → HoldsPlan (heard_visits vs)
holds_plan vs e = plan_held nothing_seen vs e

-- ---- visits that end otherwise hold none

abbrev pub IsNoPlan : Visit → Type 0
IsNoPlan v = v.sight ≢ Plan

no_plan_from : (t : Tally) (q : List ℕ) (n : Node) (x : Sight) (vs : List Visit)
    → ((t : Tally) → t.plans ≡ 0 → (end_of 1 t vs).ending ≢ Stopped → All IsNoPlan (heard_visits vs))
    → t.plans ≡ 0 → (end_of 1 t (visit q n x ∷ vs)).ending ≢ Stopped
    → All IsNoPlan (heard_visits (visit q n x ∷ vs))
no_plan_from t q n Did vs others none h =
    All-cons IsNoPlan (visit q n Did) (heard_visits vs) (λ e. let f : Did ≡ Plan = e in cc)
    (others (with_did t) none h)
no_plan_from t q n Plan vs others none h = absurd (h (stops t q n vs none))
no_plan_from t q n CutHere vs others none h =
    All-cons IsNoPlan (visit q n CutHere) (heard_visits vs) (λ e. let f : CutHere ≡ Plan = e in cc)
    (others (with_cut t) none h)
no_plan_from t q n (FaultHere f) vs others none h =
    All-cons IsNoPlan (visit q n (FaultHere f)) [] (λ e. let g : FaultHere f ≡ Plan = e in cc) (All-nil IsNoPlan)

no_plan_held : (t : Tally) (vs : List Visit) → t.plans ≡ 0 → (end_of 1 t vs).ending ≢ Stopped
    → All IsNoPlan (heard_visits vs)
no_plan_held t [] none h = All-nil IsNoPlan
no_plan_held t (v ∷ vs) none h = no_plan_from t v.path v.node v.sight vs (λ u. no_plan_held u vs) none h

-- so where they don't end at a plan, none of them up to the first fault is one
pub holds_no_plan : (vs : List Visit) → (first_end vs).ending ≢ Stopped → All IsNoPlan (heard_visits vs)
holds_no_plan vs h = no_plan_held nothing_seen vs refl h

-- ---- visits that come to the end are whole

-- no cut was seen before, and each visit reaches a node
record IsWhole (t : Tally) (vs : List Visit) : Type 0 where
  uncut : t.is_cut ≡ false
  reached : All (λ v. IsReached v.sight) (heard_visits vs)

quiet_uncut : (b : Bool) → quiet_ending b ≡ AtEnd → b ≡ false
quiet_uncut true e = let f : AtCut ≡ AtEnd = e in absurd (cc)
quiet_uncut false e = refl

whole_from : (t : Tally) (q : List ℕ) (n : Node) (x : Sight) (vs : List Visit)
    → ((t : Tally) → t.plans ≡ 0 → (end_of 1 t vs).ending ≡ AtEnd → IsWhole t vs) → t.plans ≡ 0
    → (end_of 1 t (visit q n x ∷ vs)).ending ≡ AtEnd → IsWhole t (visit q n x ∷ vs)
whole_from t q n Did vs others none e =
    let w = others (with_did t) none e in
    record {
      uncut = w.uncut;
      reached = All-cons (λ v. IsReached v.sight) (visit q n Did) (heard_visits vs) refl w.reached;
    }
whole_from t q n Plan vs others none e = let never : Stopped ≡ AtEnd = sym (stops t q n vs none) ∙ e in absurd (cc)
whole_from t q n CutHere vs others none e =
    let w = others (with_cut t) none e in let never : true ≡ false = w.uncut in absurd (cc)
whole_from t q n (FaultHere f) vs others none e = let never : AtFault f ≡ AtEnd = e in absurd (cc)

whole_held : (t : Tally) (vs : List Visit) → t.plans ≡ 0 → (end_of 1 t vs).ending ≡ AtEnd → IsWhole t vs
whole_held t [] none e =
    record { uncut = quiet_uncut t.is_cut e; reached = All-nil (λ v. IsReached v.sight) }
whole_held t (v ∷ vs) none e = whole_from t v.path v.node v.sight vs (λ u. whole_held u vs) none e

-- so none of them up to the first fault is a cut or a fault
pub all_reached : (vs : List Visit) → (first_end vs).ending ≡ AtEnd → All (λ v. IsReached v.sight) (heard_visits vs)
all_reached vs e = (whole_held nothing_seen vs refl e).reached
