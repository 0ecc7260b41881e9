-- The plan of a number, and the pass that comes to it.
use Rattle.std.specs.Prelude.{◌≡◌, ◌≢◌, ℕ, zero, suc, ◌-◌, List, filter, Option, Some, None, MatchOption, slice_get}
use Rattle.std.specs.List.{find}
use Rattle.hp_after.specs.declared.reaching.Reached.{Reached}
use Rattle.hp_after.specs.declared.reaching.Reached.TheVariants as reached
use Rattle.hp_net.specs.Standings.{Tree, Standing, node_reached}
use Rattle.hp_passes.specs.declared.passing.Turn.{Turn}
use Rattle.hp_passes.specs.declared.passing.Turn.TheVariants.{On, Past, Last}
use Rattle.hp_syntax.specs.declared.fault.RunFault.{RunFault}
use Rattle.hp_syntax.specs.Walk.{Sight, Visit, Did, Plan, CutHere, FaultHere, heard_visits, is_fault_here, is_plan}
use Rattle.hp_way.specs.declared.plans.Counting.{Counting}

-- the plan of a number, from 1 on, among those that come before any fault
abbrev pub plan_numbered : ℕ → List Visit → Option Visit
plan_numbered zero vs = None
plan_numbered (suc i) vs = slice_get (filter (λ v. is_plan v.sight) (heard_visits vs)) i

-- visits hold no fault
abbrev pub HasNoFault : List Visit → Type 0
HasNoFault vs = find (λ v. is_fault_here v.sight) vs ≡ None

-- the first fault of visits is this one
abbrev pub HasFirstFault : RunFault → List Visit → Type 0
HasFirstFault f vs = MatchOption (find (λ v. is_fault_here v.sight) vs) ⊥ (λ v. v.sight ≡ FaultHere f)

-- no plan has the number, and there is no fault; or a fault comes first
abbrev pub LacksPlan : ℕ → List Visit → Type 0
LacksPlan number vs = (plan_numbered number vs ≡ None) × HasNoFault vs

abbrev pub HasFaultFirst : ℕ → RunFault → List Visit → Type 0
HasFaultFirst number f vs = (plan_numbered number vs ≡ None) × HasFirstFault f vs

-- a walk stands at the plan of a number
pub record StandsAtPlan (t : Tree) (s : Standing) (number : ℕ) (vs : List Visit) : Type 0 where
  pub plan : Visit
  pub is : plan_numbered number vs ≡ Some plan
  pub path : s.path ≡ plan.path
  pub node : node_reached t s ≡ Some plan.node

-- what a walk over these visits came to on the way to the plan of a number
abbrev pub ComesTo : Reached → Tree → Standing → ℕ → List Visit → Type 0
ComesTo reached.At t s number vs = StandsAtPlan t s number vs
ComesTo reached.Absent t s number vs = LacksPlan number vs
ComesTo (reached.Fault f) t s number vs = HasFaultFirst number f vs

-- ---- the pass

-- how the last visit is made: it is the plan, or a fault
abbrev pub IsLast : ℕ → Visit → Reached → Type 0
IsLast left v reached.At = (v.sight ≡ Plan) × (left ≡ 1)
IsLast left v reached.Absent = ⊥
IsLast left v (reached.Fault f) = v.sight ≡ FaultHere f

-- another plan is counted, and nothing else changes anything
abbrev pub GoesOn : Counting → Sight → Counting → Type 0
GoesOn s Did t = t ≡ s
GoesOn s Plan t = (s.left ≢ 1) × (t.left ≡ s.left - 1) × (t.answer ≡ s.answer)
GoesOn s CutHere t = t ≡ s
GoesOn s (FaultHere f) t = ⊥

-- the plan, or a fault, is the last visit
abbrev pub Meets : Counting → Visit → Turn → Counting → Type 0
Meets s v On t = GoesOn s v.sight t
Meets s v Past t = ⊥
Meets s v Last t = IsLast s.left v t.answer

abbrev pub meets_counting : Counting → Unit {0} → Visit → Turn → Counting → Unit {0} → Type 0
meets_counting s c v x t d = Meets s v x t
