-- The least depth at which the walk of a pair isn't cut short.
use Rattle.std.specs.Prelude.{◌≡◌, ◌≢◌, ◌+◌, ◌<◌, ℕ, zero, suc, Bool, true, false, cond, List, [], ◌∷◌, Option, Some, None, Contains}
use Rattle.std.specs.List.{All}
use Rattle.hp_net.specs.Standings.{Tree, Standing, node_reached}
use Rattle.hp_shallow.specs.declared.walking.ShallowEnd.{ShallowEnd}
use Rattle.hp_shallow.specs.declared.walking.ShallowEnd.TheVariants as ends
use Rattle.hp_syntax.specs.Report.{Ending, Stopped, AtFault, AtCut, AtEnd, Ended, end_of, nothing_seen}
use Rattle.hp_syntax.specs.Syntax.{Rule, Pair}
use Rattle.hp_syntax.specs.Walk.{Visit, Did, Plan, CutHere, FaultHere, root, visits, walk}

-- ---- a walk up to its first plan

-- how visits end of which one plan is asked
abbrev pub first_end : List Visit → Ended
first_end vs = end_of 1 nothing_seen vs

-- the first plan of visits, unless a fault comes before it
abbrev pub first_plan : List Visit → Option Visit
first_plan [] = None
first_plan (v ∷ vs) =
    elim v.sight [
      | Did ↦ first_plan vs
      | Plan ↦ Some v
      | CutHere ↦ first_plan vs
      | FaultHere f ↦ None
    ]

-- a walk of a tree stands at the first plan of visits
pub record StandsAtPlan (t : Tree) (s : Standing) (vs : List Visit) : Type 0 where
  pub plan : Visit
  pub first : first_plan vs ≡ Some plan
  pub path : s.path ≡ plan.path
  pub node : node_reached t s ≡ Some plan.node

-- an ending as it is answered
abbrev pub shallow_end : Ending → ShallowEnd
shallow_end Stopped = ends.Plan
shallow_end (AtFault f) = ends.Fault f
shallow_end AtCut = ends.Cut
shallow_end AtEnd = ends.End

-- ---- the least depth

-- a walk is cut short where a limit cut it somewhere, and it comes to no plan and no fault
abbrev pub is_cut_short : Ending → Bool
is_cut_short Stopped = false
is_cut_short (AtFault f) = false
is_cut_short AtCut = true
is_cut_short AtEnd = false

module _ (at : ℕ → List Visit) where
  -- the least depth from one on, and at most so many further, whose walk isn't cut short; else the last of them
  abbrev pub deciding : ℕ → ℕ → ℕ
  deciding depth zero = depth
  deciding depth (suc more) = cond (is_cut_short (first_end (at depth)).ending) (deciding (depth + 1) more) depth

  -- the least depth up to a limit whose walk isn't cut short; the limit, where each is
  abbrev pub least_depth : ℕ → ℕ
  least_depth limit = deciding 0 limit

  -- how many decompositions the walks of so many depths visit, from depth 0 on
  abbrev pub expansions_below : ℕ → ℕ
  expansions_below zero = 0
  expansions_below (suc depth) = expansions_below depth + (first_end (at depth)).tally.expansions

-- ---- the plans of a pair

module _ (rules : List Rule) (nest : ℕ) (pair : Pair) where
  -- the visits of the tree of the pair at each depth
  abbrev pub visits_at : ℕ → List Visit
  visits_at depth = visits rules nest (root pair depth) []

  -- these are the visits at each depth
  abbrev pub IsWalkedAt : (ℕ → List Visit) → Type 0
  IsWalkedAt at = (depth : ℕ) → at depth ≡ visits_at depth

  -- the walk of a depth holds a plan
  abbrev pub HasPlan : ℕ → Type 0
  HasPlan depth = (v : Visit) × Contains (walk rules nest pair depth) v × (v.sight ≡ Plan)

  -- the walk of a depth holds no plan
  abbrev pub HasNoPlan : ℕ → Type 0
  HasNoPlan depth = All (λ v. v.sight ≢ Plan) (walk rules nest pair depth)

-- a depth is the least whose walk holds a plan
pub record IsShallowest (rules : List Rule) (nest : ℕ) (pair : Pair) (depth : ℕ) : Type 0 where
  pub plan : HasPlan rules nest pair depth
  pub below : (d : ℕ) → d < depth → HasNoPlan rules nest pair d
