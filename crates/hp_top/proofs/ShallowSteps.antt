-- What is told of the deciding depth, by what was found there.
use Rattle.std.proofs.Common.{◌≡◌, ℕ, suc, append-nil, Bool, true, false, List, [], ◌∷◌, ◌++◌, Option, Some, None, MatchOption, refl, ap, sym, ◌∙◌, subst}
use Rattle.hp_code.specs.CodeViews.{CodeView, or_empty, rules_in, rules_of}
use Rattle.hp_net.specs.Standings.{Tree, Standing, node_reached}
use Rattle.hp_shallow.specs.LeastDepth.{IsShallowest, IsWalkedAt, StandsAtPlan, expansions_below, first_end, first_plan, shallow_end}
use Rattle.hp_shallow.specs.declared.walking.ShallowEnd.{ShallowEnd}
use Rattle.hp_shallow.specs.declared.walking.ShallowEnd.TheVariants as ends
use Rattle.hp_out.specs.Lines.{depth_text}
use Rattle.hp_syntax.specs.declared.status.Status.{Status}
use Rattle.hp_syntax.specs.declared.status.Status.TheVariants as status
use Rattle.hp_syntax.specs.Report.{Answer, quiet_ending, AtCut, AtEnd, AtFault, Ended, Ending, Stopped, Tally, answer_at, behind, end_of, ended, ending_text, nothing_seen, plan_of, plan_texts, shown, status_of, tally, told_plan, with_cut, with_did}
use Rattle.hp_syntax.specs.Syntax.{Pair, Rule}
use Rattle.hp_syntax.specs.Walk.{CutHere, Did, FaultHere, Node, Plan, Sight, Visit, count_told, root, visit, visits}
use Rattle.hp_top.specs.Outcome.{pair_visits}
use Rattle.hp_top.specs.ShallowReports.{TellsTheShallowest, depth_report, first_report}
use Rattle.hp_telling.proofs.ReportLemmas.{ending_saturates}

-- a consequence of a fact of the node that is reached is one of it
pub reached_weaker : (o : Option Node) (P Q : Node → Type 0) → MatchOption o ⊥ P → ((n : Node) → P n → Q n)
    → MatchOption o ⊥ Q
reached_weaker None P Q h f = h
reached_weaker (Some n) P Q h f = f n h

-- ---- the first plan

first_is : (v w : Visit) → Some v ≡ Some w → v ≡ w
first_is v w e = cc

-- where visits stop at a first plan, one plan was seen, and its text is all that is told of plans; else none
pub record TellsFirst (tell : ℕ → Visit → List ℕ) (vs : List Visit) (e : Ended) : Type 0 where
  plan : (v : Visit) → first_plan vs ≡ Some v → (e.ending ≡ Stopped) × (e.tally.plans ≡ 1) × (plan_texts tell 1 0 vs ≡ tell 1 v)
  none : (e.ending ≡ Stopped → ⊥) → (e.tally.plans ≡ 0) × (plan_texts tell 1 0 vs ≡ [])

module _ (tell : ℕ → Visit → List ℕ) where
  -- at a first plan the walk stops, and it is told
  tells_plan : (t : Tally) (p : List ℕ) (n : Node) (vs : List Visit) → t.plans ≡ 0
      → TellsFirst tell (visit p n Plan ∷ vs) (end_of 1 t (visit p n Plan ∷ vs))
  tells_plan t p n vs z =
      subst (λ k. TellsFirst tell (visit p n Plan ∷ vs) (end_of 1 (tally k t.expansions t.is_cut) (visit p n Plan ∷ vs)))
      (sym z)
      (record {
        plan = λ v e. (refl, refl, append-nil (tell 1 (visit p n Plan)) ∙ ap (tell 1) (first_is (visit p n Plan) v e));
        none = λ never. absurd (never refl);
      })

  -- one visit more
  tells_first_at : (t : Tally) (p : List ℕ) (n : Node) (x : Sight) (vs : List Visit) → t.plans ≡ 0
      → ((u : Tally) → u.plans ≡ 0 → TellsFirst tell vs (end_of 1 u vs))
      → TellsFirst tell (visit p n x ∷ vs) (end_of 1 t (visit p n x ∷ vs))
  tells_first_at t p n Did vs z others =
      let o = others (with_did t) z in record { plan = o.plan; none = o.none }
  tells_first_at t p n CutHere vs z others =
      let o = others (with_cut t) z in record { plan = o.plan; none = o.none }
  tells_first_at t p n (FaultHere f) vs z others =
      record { plan = λ v e. cc; none = λ n. (z, refl) }
  tells_first_at t p n Plan vs z others = tells_plan t p n vs z

  tells_first_from : (t : Tally) (vs : List Visit) → t.plans ≡ 0 → TellsFirst tell vs (end_of 1 t vs)
  tells_first_from t [] z = record { plan = λ v e. cc; none = λ n. (z, refl) }
  tells_first_from t (v ∷ vs) z =
      tells_first_at t v.path v.node v.sight vs z (λ u y. tells_first_from u vs y)

  pub tells_first : (vs : List Visit) → TellsFirst tell vs (first_end vs)
  tells_first vs = tells_first_from nothing_seen vs refl

-- visits that stop at a plan have a first one
quiet_never : (b : Bool) → quiet_ending b ≡ Stopped → ⊥
quiet_never true e = cc
quiet_never false e = cc

has_plan_at : (t : Tally) (p : List ℕ) (n : Node) (x : Sight) (vs : List Visit)
    → ((u : Tally) → (end_of 1 u vs).ending ≡ Stopped → (v : Visit) × (first_plan vs ≡ Some v))
    → (end_of 1 t (visit p n x ∷ vs)).ending ≡ Stopped → (v : Visit) × (first_plan (visit p n x ∷ vs) ≡ Some v)
has_plan_at t p n Did vs others e = others (with_did t) e
has_plan_at t p n CutHere vs others e = others (with_cut t) e
has_plan_at t p n Plan vs others e = (visit p n Plan, refl)
has_plan_at t p n (FaultHere f) vs others e = cc

has_plan_from : (t : Tally) (vs : List Visit) → (end_of 1 t vs).ending ≡ Stopped
    → (v : Visit) × (first_plan vs ≡ Some v)
has_plan_from t [] e = absurd (quiet_never t.is_cut e)
has_plan_from t (v ∷ vs) e = has_plan_at t v.path v.node v.sight vs (λ u h. has_plan_from u vs h) e

pub stopped_has_plan : (vs : List Visit) → (first_end vs).ending ≡ Stopped → (v : Visit) × (first_plan vs ≡ Some v)
stopped_has_plan vs e = has_plan_from nothing_seen vs e

-- ---- the deciding depth

-- an ending by its answer
end_is : (e : Ending) (x : Ending) → shallow_end x ≡ shallow_end e → x ≡ e
end_is Stopped Stopped h = refl
end_is Stopped (AtFault f) h = cc
end_is Stopped AtCut h = cc
end_is Stopped AtEnd h = cc
end_is (AtFault f) Stopped h = cc
end_is (AtFault f) (AtFault g) h = let same : g ≡ f = cc in ap AtFault same
end_is (AtFault f) AtCut h = cc
end_is (AtFault f) AtEnd h = cc
end_is AtCut Stopped h = cc
end_is AtCut (AtFault f) h = cc
end_is AtCut AtCut h = refl
end_is AtCut AtEnd h = cc
end_is AtEnd Stopped h = cc
end_is AtEnd (AtFault f) h = cc
end_is AtEnd AtCut h = cc
end_is AtEnd AtEnd h = refl

-- the text of an ending, with the count as it is told
counted_ending : (x : Ending) (p n m : ℕ) → m ≡ count_told n → ending_text x p m ≡ ending_text x p n
counted_ending x p n m e = ap (ending_text x p) e ∙ ending_saturates x p n

-- what is told of visits that stop at their first plan
pub plan_told : (states : Bool) (n m : ℕ) (vs : List Visit) (t : Tree) (s : Standing) (R : Answer → Type 0)
    → m ≡ count_told n → StandsAtPlan t s vs
    → MatchOption (node_reached t s) ⊥
    (λ x. R (behind (told_plan (shown states false) 1 s.path x) (ending_text Stopped 1 m, status.Done)))
    → R (first_report states n vs)
plan_told states n m vs t s R e at h =
    let tell = plan_of (shown states false) in
    let v = at.plan in
    let f = (tells_first tell vs).plan v at.first in
    let told : R (behind (told_plan (shown states false) 1 v.path v.node) (ending_text Stopped 1 m, status.Done)) =
    subst (λ p. R (behind (told_plan (shown states false) 1 p v.node) (ending_text Stopped 1 m, status.Done))) at.path
    (subst (λ o. MatchOption o ⊥
    (λ x. R (behind (told_plan (shown states false) 1 s.path x) (ending_text Stopped 1 m, status.Done)))) at.node h) in
    subst R
    (ap (λ x. (told_plan (shown states false) 1 v.path v.node ++ x, status.Done)) (counted_ending Stopped 1 n m e)
    ∙ ap (λ x. (x ++ ending_text Stopped 1 n, status.Done)) (sym f.2)
    ∙ ap (λ x. answer_at (plan_texts tell 1 0 vs) (ended Stopped (tally x n (first_end vs).tally.is_cut))) (sym f.1)
    ∙ ap (λ x. answer_at (plan_texts tell 1 0 vs) (ended x (tally (first_end vs).tally.plans n (first_end vs).tally.is_cut)))
    (sym f.0))
    told

-- and of visits that don't
pub none_told : (states : Bool) (n m : ℕ) (vs : List Visit) (x : Ending) → m ≡ count_told n
    → x ≡ (first_end vs).ending → (x ≡ Stopped → ⊥)
    → (ending_text x 0 m, status_of x 0) ≡ first_report states n vs
none_told states n m vs x e is never =
    let tell = plan_of (shown states false) in
    let f = (tells_first tell vs).none (λ s. never (is ∙ s)) in
    ap (λ z. (z, status_of x 0)) (counted_ending x 0 n m e)
    ∙ ap (λ z. answer_at z (ended x (tally 0 n (first_end vs).tally.is_cut))) (sym f.1)
    ∙ ap (λ z. answer_at (plan_texts tell 1 0 vs) (ended x (tally z n (first_end vs).tally.is_cut))) (sym f.0)
    ∙ ap (λ z. answer_at (plan_texts tell 1 0 vs) (ended z (tally (first_end vs).tally.plans n (first_end vs).tally.is_cut)))
    is

-- an answer that isn't a plan is no stop
pub no_stop : (x : Ending) (a : ShallowEnd) → shallow_end x ≡ a → (a ≡ ends.Plan → ⊥) → x ≡ Stopped → ⊥
no_stop x a e never is = never (sym e ∙ ap shallow_end is)

pub ending_is : (x y : Ending) (a : ShallowEnd) → shallow_end x ≡ a → a ≡ shallow_end y → x ≡ y
ending_is x y a e f = end_is y x (e ∙ f)

-- ---- visits at each depth

-- the visits by rules are those by their code at each depth
pub walked_at : (rules lowered : List Rule) (nest : ℕ) (p : Pair) (c : CodeView) → rules_of c ≡ Some lowered
    → ((n : ℕ) → visits lowered nest (root p n) [] ≡ visits rules nest (root p n) [])
    → IsWalkedAt (rules_in c) nest p (λ n. pair_visits rules nest n p)
walked_at rules lowered nest p c reads same = λ n.
    let read : rules_in c ≡ lowered = ap or_empty reads in
    sym (ap (λ rs. visits rs nest (root p n) []) read ∙ same n)

-- ---- the status

-- the status of a walk of which one plan is asked
abbrev first_status : Ending → Status
first_status Stopped = status.Done
first_status (AtFault f) = status.RunFault
first_status AtCut = status.CutShort
first_status AtEnd = status.NoPlan

status_at : (x : Ending) (p : ℕ) → ((x ≡ Stopped → ⊥) → p ≡ 0) → status_of x p ≡ first_status x
status_at Stopped p z = refl
status_at (AtFault f) p z = refl
status_at AtCut p z = rw (z (λ e. cc)) refl
status_at AtEnd p z = rw (z (λ e. cc)) refl

-- the status that is told is that of the ending
pub status_told_of : (vs : List Visit)
    → status_of (first_end vs).ending (first_end vs).tally.plans ≡ first_status (first_end vs).ending
status_told_of vs =
    status_at (first_end vs).ending (first_end vs).tally.plans
    (λ never. ((tells_first (plan_of (shown false false)) vs).none never).0)

pub done_stopped : (x : Ending) → first_status x ≡ status.Done → x ≡ Stopped
done_stopped Stopped e = refl
done_stopped (AtFault f) e = cc
done_stopped AtCut e = cc
done_stopped AtEnd e = cc

pub none_at_end : (x : Ending) → first_status x ≡ status.NoPlan → x ≡ AtEnd
none_at_end Stopped e = cc
none_at_end (AtFault f) e = cc
none_at_end AtCut e = cc
none_at_end AtEnd e = refl

pub cut_at_cut : (x : Ending) → first_status x ≡ status.CutShort → x ≡ AtCut
cut_at_cut Stopped e = cc
cut_at_cut (AtFault f) e = cc
cut_at_cut AtCut e = refl
cut_at_cut AtEnd e = cc

-- what is told of a depth whose walk stops at a plan
pub shallowest_told_at : (rules : List Rule) (nest : ℕ) (pair : Pair) (states : Bool) (at : ℕ → List Visit) (d : ℕ)
    → IsWalkedAt rules nest pair at → IsShallowest rules nest pair d → (v : Visit) × (first_plan (at d) ≡ Some v)
    → TellsTheShallowest rules nest pair states (depth_report states at d)
shallowest_told_at rules nest pair states at d walked least has =
    let tell = plan_of (shown states false) in
    let n = expansions_below at (suc d) in
    let f = (tells_first tell (at d)).plan has.0 has.1 in
    record {
      depth = d;
      shallowest = least;
      plan = has.0;
      first = ap first_plan (sym (walked d)) ∙ has.1;
      expansions = n;
      text =
          ap (λ t. depth_text d ++ (t ++ ending_text (first_end (at d)).ending (first_end (at d)).tally.plans n)) f.2
          ∙ ap (λ x. depth_text d ++ (tell 1 has.0 ++ ending_text x (first_end (at d)).tally.plans n)) f.0
          ∙ ap (λ p. depth_text d ++ (tell 1 has.0 ++ ending_text Stopped p n)) f.1;
    }
