-- The way to a plan: the decompositions that lead to it, one by one, and the states between them.
use Rattle.std.specs.Prelude.{◌≡◌, ◌≢◌, ◌⊎◌, ◌<◌, ◌≤◌, ℕ, ℤ, List, [], ◌∷◌, ◌++◌, length, map, slice_get, take, Option, Some, MatchOption}
use Rattle.hp_syntax.specs.GroundViews.{ground_of}
use Rattle.hp_syntax.specs.Networks.{Place}
use Rattle.hp_syntax.specs.Syntax.{Rule}
use Rattle.hp_syntax.specs.Terms.{Term}
use Rattle.hp_syntax.specs.Walk.{Node, Visit, Plan, node_at, told, visit, visits}
use Rattle.hp_net.specs.Standings.{Tree}
use Rattle.hp_laws.specs.Derivations.{IsNext, Leads, situation_at}
use Rattle.hp_choice.specs.Served.{ServesBy}
use Rattle.hp_after.specs.declared.reaching.Reached.TheVariants as reached
use Rattle.hp_after.specs.Reach.{reaching}
use Rattle.hp_way.specs.Counting.{HasFaultFirst, LacksPlan, plan_numbered}
use Rattle.hp_way.specs.declared.ways.Deed as made
use Rattle.hp_way.specs.declared.ways.Way.{Way}
use Rattle.hp_way.specs.declared.ways.Way.TheVariants as ways

-- a decomposition on the way: the place of its task among the candidates, the task, the places of the rule and of the
-- branch, and what the steps down to the node behind it cost
pub record Deed : Type 0 where
  pub candidate : ℕ
  pub task : Term
  pub rule : ℕ
  pub branch : ℕ
  pub cost : ℤ

-- a deed as it is told
abbrev pub deed_of : made.Deed → Deed
deed_of d = record {
  candidate = d.candidate;
  task = ground_of d.task;
  rule = d.rule;
  branch = d.branch;
  cost = d.cost;
}

-- a deed leads from a node to its child of a number: by a choice of the candidate, the rule and some event; its task
-- stands at the candidate, the rule serves it by the branch, and its cost is that of the child
pub record IsDone (rules : List Rule) (nest : ℕ) (d : Deed) (number : ℕ) (n m : Node) : Type 0 where
  pub child : node_at rules nest n (number ∷ []) ≡ Some m
  pub event : ℕ
  pub leads : Leads rules nest (record { candidate = d.candidate; rule = d.rule; event = event }) n m
  pub place : Place
  pub next : IsNext (situation_at n) d.candidate place d.task
  pub own : Rule
  pub is : slice_get rules d.rule ≡ Some own
  pub serves : ServesBy rules nest n.state d.task own d.branch
  pub cost : d.cost ≡ m.cost

-- deeds lead along a path from a node to another, one for each number
pub data LeadAlong (rules : List Rule) (nest : ℕ) : List Deed → List ℕ → Node → Node → Type 0 where
  Here : (n : Node) → LeadAlong rules nest [] [] n n
  Through : (d : Deed) (ds : List Deed) (i : ℕ) (p : List ℕ) (n m l : Node) → IsDone rules nest d i n m
      → LeadAlong rules nest ds p m l → LeadAlong rules nest (d ∷ ds) (i ∷ p) n l

-- the tree of rules, where axioms may call one another so deep
abbrev pub tree_of : List Rule → ℕ → Node → Tree
tree_of rules nest root = record { rules = rules; nest = nest; root = root }

-- a visit is there, and this is its path
abbrev pub IsPathOf : Option Visit → List ℕ → Type 0
IsPathOf o path = MatchOption o ⊥ (λ v. path ≡ v.path)

-- or its path as it is told
abbrev pub IsToldOf : Option Visit → List ℕ → Type 0
IsToldOf o path = MatchOption o ⊥ (λ v. path ≡ told v.path)

-- visits hold the plan of a node at a path
abbrev pub HoldsPlanOf : Node → List ℕ → List Visit → Type 0
HoldsPlanOf n p vs = (before : List Visit) × (after : List Visit) × (vs ≡ before ++ visit p n Plan ∷ after)

-- the walk to a path comes to a plan, to which these deeds lead from the root
pub record LeadToPlan (rules : List Rule) (nest : ℕ) (root : Node) (path : List ℕ) (ds : List Deed) : Type 0 where
  pub answer : (reaching path (visits rules nest root [])).knows.answer ≡ reached.At
  pub node : Node
  pub plan : HoldsPlanOf node path (visits rules nest root [])
  pub lead : LeadAlong rules nest ds path root node

-- what stands at a path: a plan with the deeds that lead to it, or else what the walk to the path answers
abbrev pub IsWay : List Rule → ℕ → Node → List ℕ → Way → Type 0
IsWay rules nest root path (ways.Plan ds) = LeadToPlan rules nest root path (map deed_of ds.items)
IsWay rules nest root path ways.Absent = (reaching path (visits rules nest root [])).knows.answer ≡ reached.Absent
IsWay rules nest root path (ways.Fault f) =
    (reaching path (visits rules nest root [])).knows.answer ≡ reached.Fault f

-- these deeds lead from the root to the plan of a number
pub record LeadToNumbered (rules : List Rule) (nest : ℕ) (root : Node) (number : ℕ) (ds : List Deed) : Type 0 where
  pub plan : Visit
  pub is : plan_numbered number (visits rules nest root []) ≡ Some plan
  pub lead : LeadAlong rules nest ds plan.path root plan.node

-- the plan of a number, from 1 on, with the deeds that lead to it; or there are fewer plans, and no fault; or a fault
-- comes before it, and this is the first one
abbrev pub IsWayOfPlan : List Rule → ℕ → Node → ℕ → Way → Type 0
IsWayOfPlan rules nest root number (ways.Plan ds) = LeadToNumbered rules nest root number (map deed_of ds.items)
IsWayOfPlan rules nest root number ways.Absent = LacksPlan number (visits rules nest root [])
IsWayOfPlan rules nest root number (ways.Fault f) = HasFaultFirst number f (visits rules nest root [])

-- the plan of a number is at this path, as it is told, where the way leads to a plan
abbrev pub IsPathOfPlan : List Rule → ℕ → Node → ℕ → Way → List ℕ → Type 0
IsPathOfPlan rules nest root number (ways.Plan ds) path =
    IsToldOf (plan_numbered number (visits rules nest root [])) path
IsPathOfPlan rules nest root number ways.Absent path = Unit {0}
IsPathOfPlan rules nest root number (ways.Fault f) path = Unit {0}

-- a walk stands at the plan of a number where the way leads to one
abbrev pub StandsAtNumbered : Way → ℕ → List Visit → List ℕ → Type 0
StandsAtNumbered (ways.Plan ds) number vs stands = IsPathOf (plan_numbered number vs) stands
StandsAtNumbered ways.Absent number vs stands = Unit {0}
StandsAtNumbered (ways.Fault f) number vs stands = Unit {0}

-- a walk stands at the path where the way leads to a plan
abbrev pub StandsThere : Way → List ℕ → List ℕ → Type 0
StandsThere (ways.Plan ds) path stands = stands ≡ path
StandsThere ways.Absent path stands = Unit {0}
StandsThere (ways.Fault f) path stands = Unit {0}

-- ---- states

-- the walk to a path comes to a plan, and these are the atoms that hold at the node which so many of the first numbers
-- of the path reach, in the order of its state
pub record IsStateOnTheWay (rules : List Rule) (nest : ℕ) (root : Node) (path : List ℕ) (count : ℕ)
    (atoms : List Term) : Type 0 where
  pub answer : (reaching path (visits rules nest root [])).knows.answer ≡ reached.At
  pub plan : Node
  pub holds : HoldsPlanOf plan path (visits rules nest root [])
  pub within : count ≤ length path
  pub node : Node
  pub there : node_at rules nest root (take count path) ≡ Some node
  pub state : atoms ≡ node.state

-- the walk to a path comes to no plan, or the path has fewer numbers
abbrev pub HasNoStateOnTheWay : List Rule → ℕ → Node → List ℕ → ℕ → Type 0
HasNoStateOnTheWay rules nest root path count =
    ((reaching path (visits rules nest root [])).knows.answer ≢ reached.At) ⊎ (length path < count)
