-- Words for the laws of networks and walks.
use Rattle.std.specs.Prelude.{◌≡◌, ◌≢◌, ◌⊎◌, ℕ, ◌+◌, ◌<◌, Bool, true, false, ◌||◌, ◌++◌, List, [], ◌∷◌, length, take, filter, Option, Some, None}
use Rattle.std.specs.List.{All}
use Rattle.hp_syntax.specs.Terms.{Term}
use Rattle.hp_syntax.specs.Networks.{Network, Empty, Task, Place, normal, part_at, candidates}
use Rattle.hp_syntax.specs.Walk.{Visit, Sight, Did, Plan, is_did, is_plan, is_fault_here, heard_visits}

-- a task stands at a place of the network
abbrev pub IsTaskAt : Network → Place → Type 0
IsTaskAt net p = (t : Term) × (i : Bool) × (part_at net p ≡ Some (Task t i))

-- there is a candidate, and at each candidate stands a task
pub record HasNext (net : Network) (focus : Option Place) : Type 0 where
  pub some : 0 < length (candidates net focus)
  pub tasks : All (IsTaskAt net) (candidates net focus)

-- a focus is a place of the network at which something is left to do
abbrev pub IsFocus : Network → Option Place → Type 0
IsFocus net None = Unit {0}
IsFocus net (Some p) = (part : Network) × (part_at net p ≡ Some part) × (part ≢ Empty)

-- a network in normal form, with a focus that is a place in it
pub record IsNormal (net : Network) (focus : Option Place) : Type 0 where
  pub form : normal net ≡ net
  pub place : IsFocus net focus

-- the sight is no fault
abbrev pub IsFaultless : Sight → Type 0
IsFaultless x = is_fault_here x ≡ false

-- a node is reached, by a decomposition or as a plan: what is seen is neither a cut nor a fault
abbrev pub IsReached : Sight → Type 0
IsReached x = (is_did x || is_plan x) ≡ true

-- a path comes before another: it leads to a node above it, or has the smaller number where they part
abbrev pub IsBefore : List ℕ → List ℕ → Type 0
IsBefore p [] = ⊥
IsBefore [] (j ∷ q) = Unit {0}
IsBefore (i ∷ p) (j ∷ q) = (i < j) ⊎ ((i ≡ j) × IsBefore p q)

-- a plan stands behind the decomposition that reached it, at the same path
pub data IsPlanOf : Sight → Sight → Type 0 where
  PlanOf : IsPlanOf Did Plan

-- a visit and a later one, of nodes that are reached
abbrev pub ComesBefore : Visit → Visit → Type 0
ComesBefore v w = IsBefore v.path w.path ⊎ ((v.path ≡ w.path) × IsPlanOf v.sight w.sight)

-- a visit without the depth that is left
abbrev pub without_depth : Visit → Visit
without_depth v = record v { node = record v.node { depth = 0 } }

-- a list begins another
abbrev pub IsPrefix : {A : Type 0} → List A → List A → Type 0
IsPrefix {A} xs ys = (rest : List A) × (xs ++ rest ≡ ys)

-- the first k plans that are heard of visits
abbrev pub first_plans : ℕ → List Visit → List Visit
first_plans k vs = take k (filter (λ v. is_plan v.sight) (heard_visits vs))

-- the texts of visits, one after another, of which the first has this number
abbrev pub numbered_texts : (ℕ → Visit → List ℕ) → ℕ → List Visit → List ℕ
numbered_texts tell i [] = []
numbered_texts tell i (v ∷ vs) = tell i v ++ numbered_texts tell (i + 1) vs
