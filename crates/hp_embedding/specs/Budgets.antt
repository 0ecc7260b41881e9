-- The first plan of a walk within a budget.
use Rattle.std.specs.Prelude.{◌≡◌, Bool, true, false, ◌&&◌, ℤ, ◌≤ℤ◌, ◌<ℤ◌, List, Option, Some, None, MatchOption}
use Rattle.std.specs.Int.Signed.{le_z}
use Rattle.std.specs.List.{AllPairs, Any, find}
use Rattle.hp_passes.specs.declared.passing.Turn.{Turn}
use Rattle.hp_passes.specs.declared.passing.Turn.TheVariants.{On, Past, Last}
use Rattle.hp_syntax.specs.Report.{told_plan, shown}
use Rattle.hp_syntax.specs.Walk.{Visit, FaultHere, is_plan, begins, told}
use Rattle.hp_embedding.specs.declared.budget.Affordable.{Affordable}
use Rattle.hp_embedding.specs.declared.budget.AffordablePlan.{AffordablePlan}
use Rattle.hp_embedding.specs.declared.budget.SearchError.{SearchError}
use Rattle.hp_embedding.specs.declared.budget.SearchError.TheVariants as errors

-- the cost never falls on the way down: what is met at or below a node costs no less than what led there
abbrev pub NeverFalls : List Visit → Type 0
NeverFalls vs = AllPairs (λ v w. begins v.path w.path ≡ true → v.node.cost ≤ℤ w.node.cost) vs

-- a visit is a plan that costs no more than a budget
abbrev pub is_affordable : ℤ → Visit → Bool
is_affordable budget v = is_plan v.sight && le_z v.node.cost budget

-- a plan that was found is that of a visit
pub record IsOf (f : AffordablePlan) (v : Visit) : Type 0 where
  pub cost : f.cost ≡ v.node.cost
  pub path : f.path.items ≡ told v.path
  pub text : f.text.items ≡ told_plan (shown false false) 1 v.path v.node

-- a plan that was found is that of a visit that is a plan within a budget
abbrev pub IsTaken : ℤ → AffordablePlan → Visit → Type 0
IsTaken budget f v = (is_affordable budget v ≡ true) × IsOf f v

-- what was found is the first plan within a budget, and nothing where there is none
abbrev pub IsFirst : ℤ → Option AffordablePlan → List Visit → Type 0
IsFirst budget None vs = find (is_affordable budget) vs ≡ None
IsFirst budget (Some f) vs = MatchOption (find (is_affordable budget) vs) ⊥ (IsOf f)

-- an error at a visit is a fault only where that was met
abbrev pub IsErrorAt : SearchError → Visit → Type 0
IsErrorAt errors.NoMemory v = Unit {0}
IsErrorAt (errors.Fault f) v = v.sight ≡ FaultHere f

-- a fault is told only where it was met
abbrev pub Explains : SearchError → List Visit → Type 0
Explains errors.NoMemory vs = Unit {0}
Explains (errors.Fault f) vs = Any (λ v. v.sight ≡ FaultHere f) vs

-- ---- the pass

-- a visit is no plan within the budget; or it costs more than that, and what lies below is left out; or its plan is
-- taken
abbrev pub Meets : Affordable → Visit → Turn → Affordable → Type 0
Meets s v On t = (t ≡ s) × (is_affordable s.budget v ≡ false)
Meets s v Past t = (t ≡ s) × (s.budget <ℤ v.node.cost)
Meets s v Last t = MatchOption t.found ⊥ (λ f. IsTaken s.budget f v)

abbrev pub meets_affordable : Affordable → Unit {0} → Visit → Turn → Affordable → Unit {0} → Type 0
meets_affordable s c v x t d = Meets s v x t

abbrev pub fails_affordable : Affordable → Unit {0} → Visit → SearchError → Unit {0} → Type 0
fails_affordable s c v e d = IsErrorAt e v
