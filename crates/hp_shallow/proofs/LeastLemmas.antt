-- What the least depth says of the plans of a pair.
use Rattle.std.proofs.Common.{◌≡◌, ◌≢◌, ℕ, ◌<◌, ◌≤◌, List, sym, ap, ◌∙◌, arith, ⊎_elim}
use Rattle.std.proofs.lemmas.Bool.{cases_lt}
use Rattle.std.specs.List.{All}
use Rattle.hp_laws.proofs.WholeLemmas.{no_plan_deeper}
use Rattle.hp_laws.specs.TreeLaws.{IsReached}
use Rattle.hp_syntax.specs.Report.{Ending, Stopped, AtCut, AtEnd}
use Rattle.hp_syntax.specs.Syntax.{Rule, Pair}
use Rattle.hp_syntax.specs.Walk.{Visit, walk}
use Rattle.hp_shallow.proofs.DepthLemmas.{deciding_below, deciding_last, deciding_within, ends_at_cut}
use Rattle.hp_shallow.proofs.EndLemmas.{all_reached, holds_no_plan, holds_plan}
use Rattle.hp_shallow.specs.LeastDepth.{HasNoPlan, HasPlan, IsShallowest, IsWalkedAt, first_end, is_cut_short, least_depth, visits_at}

module _ (at : ℕ → List Visit) (limit : ℕ) where
  pub least_within : least_depth at limit ≤ limit
  least_within = let h = deciding_within at 0 limit in omega arith

  pub cut_below : (depth : ℕ) → depth < least_depth at limit → (first_end (at depth)).ending ≡ AtCut
  cut_below depth h = ends_at_cut (first_end (at depth)).ending (deciding_below at 0 limit depth (omega arith) h)

  pub cut_itself : (first_end (at (least_depth at limit))).ending ≡ AtCut → least_depth at limit ≡ limit
  cut_itself e =
      let h = deciding_last at 0 limit (ap is_cut_short e) in omega arith

module _ (rules : List Rule) (nest : ℕ) (pair : Pair) where
  -- the walk of a depth ends so
  abbrev EndsSo : ℕ → Ending → Type 0
  EndsSo depth x = (first_end (visits_at rules nest pair depth)).ending ≡ x

  -- where a walk doesn't end at a plan, it holds none
  no_plan_at : (depth : ℕ) (x : Ending) → x ≢ Stopped → EndsSo depth x → HasNoPlan rules nest pair depth
  unfolding walk
  no_plan_at depth x h e = holds_no_plan (visits_at rules nest pair depth) (λ k. h (sym e ∙ k))

  plan_at : (depth : ℕ) → EndsSo depth Stopped → HasPlan rules nest pair depth
  unfolding walk
  plan_at depth e = holds_plan (visits_at rules nest pair depth) e

  whole_at : (depth : ℕ) → EndsSo depth AtEnd → All (λ v. IsReached v.sight) (walk rules nest pair depth)
  unfolding walk
  whole_at depth e = all_reached (visits_at rules nest pair depth) e

  cut_is_no_plan : AtCut ≢ Stopped
  cut_is_no_plan e = cc

  end_is_no_plan : AtEnd ≢ Stopped
  end_is_no_plan e = cc

  module _ (at : ℕ → List Visit) (walked : IsWalkedAt rules nest pair at) (limit : ℕ) where
    ends_so : (depth : ℕ) (x : Ending) → (first_end (at depth)).ending ≡ x → EndsSo depth x
    ends_so depth x e = ap (λ vs. (first_end vs).ending) (sym (walked depth)) ∙ e

    -- no depth below the least has a plan
    none_below : (depth : ℕ) → depth < least_depth at limit → HasNoPlan rules nest pair depth
    none_below depth h =
        no_plan_at depth AtCut cut_is_no_plan (ends_so depth AtCut (cut_below at limit depth h))

    pub least_plan : (first_end (at (least_depth at limit))).ending ≡ Stopped
        → IsShallowest rules nest pair (least_depth at limit)
    least_plan e = record {
      plan = plan_at (least_depth at limit) (ends_so (least_depth at limit) Stopped e);
      below = none_below;
    }

    pub least_none : (first_end (at (least_depth at limit))).ending ≡ AtEnd → (depth : ℕ)
        → HasNoPlan rules nest pair depth
    least_none e depth =
        let least = least_depth at limit in
        let here = ends_so least AtEnd e in
        ⊎_elim (none_below depth)
        (λ l. no_plan_deeper rules nest pair least depth l (whole_at least here)
        (no_plan_at least AtEnd end_is_no_plan here)) (cases_lt depth least)

    pub least_cut : (first_end (at (least_depth at limit))).ending ≡ AtCut → (depth : ℕ) → depth ≤ limit
        → HasNoPlan rules nest pair depth
    least_cut e depth l =
        let least = least_depth at limit in
        let last = cut_itself at limit e in
        ⊎_elim (none_below depth)
        (λ k. let same : depth ≡ least = omega arith in
        no_plan_at depth AtCut cut_is_no_plan
        (ends_so depth AtCut (ap (λ d. (first_end (at d)).ending) same ∙ e))) (cases_lt depth least)
