-- Places of a walk of a tree, and the place that each call leads to.
use Rattle.std.specs.Prelude.{◌≡◌, ℕ, Bool, false, cond, List, [], ◌∷◌, length, Option, Some, None}
use Rattle.hp_syntax.specs.Terms.{Term}
use Rattle.hp_syntax.specs.Syntax.{Rule}
use Rattle.hp_syntax.specs.Walk.{Node, Visit, Did, Plan, CutHere, FaultHere, is_did, is_fault_here, node_at, begins, skip, visits}
use Rattle.hp_net.specs.declared.walk.Step.{Step}
use Rattle.hp_net.specs.declared.walk.Step.TheVariants as steps

-- a tree: the rules, the number of axiom levels, and the root
pub record Tree : Type 0 where
  pub rules : List Rule
  pub nest : ℕ
  pub root : Node

-- all visits of a tree
abbrev pub tree_visits : Tree → List Visit
tree_visits t = visits t.rules t.nest t.root []

-- a visit's path reaches its node from the root of a tree
abbrev pub IsAtItsNode : Tree → Visit → Type 0
IsAtItsNode t v = node_at t.rules t.nest t.root v.path ≡ Some v.node

-- the path of the node reached, the remaining visits, and whether the last call answered a Did
pub record Standing : Type 0 where
  pub path : List ℕ
  pub rest : List Visit
  pub at_did : Bool

abbrev pub standing : List ℕ → List Visit → Bool → Standing
standing p vs did = record { path = p; rest = vs; at_did = did }

abbrev pub node_reached : Tree → Standing → Option Node
node_reached t s = node_at t.rules t.nest t.root s.path

-- there are as many cells as are promised, if a number is
abbrev pub HasCells : Option ℕ → List Term → Type 0
HasCells None terms = Unit {0}
HasCells (Some n) terms = length terms ≡ n

-- ---- answers

abbrev pub step_of : Visit → Step
step_of v = elim v.sight [ Did ↦ steps.Did | Plan ↦ steps.Plan | CutHere ↦ steps.Cut | FaultHere f ↦ steps.Fault f ]

-- the next visit, where it is at or below the node of a path
abbrev pub next_below : List ℕ → List Visit → Option Visit
next_below p [] = None
next_below p (v ∷ vs) = cond (begins p v.path) (Some v) None

-- the next visit, wherever it is
abbrev pub next_of : List Visit → Option Visit
next_of [] = None
next_of (v ∷ vs) = Some v

abbrev pub step_or_end : Option Visit → Step
step_or_end None = steps.End
step_or_end (Some v) = step_of v

-- ---- the place after a call

abbrev pub without_next : List Visit → List Visit
without_next [] = []
without_next (v ∷ vs) = vs

-- after a fault nothing is left
abbrev pub left_after : Visit → List Visit → List Visit
left_after v vs = cond (is_fault_here v.sight) [] vs

-- a visit is the next, and it is made; where there is none, the walk stands at a path
abbrev pub arrived : List ℕ → Option Visit → List Visit → Standing
arrived p None vs = standing p vs false
arrived p (Some v) vs = standing v.path (left_after v (without_next vs)) (is_did v.sight)

-- to the next visit at or below the node reached
abbrev pub stepped : Standing → Standing
stepped s = arrived s.path (next_below s.path s.rest) s.rest

-- to the next visit wherever it is, or to the root
abbrev pub gone_on : Standing → Standing
gone_on s = arrived [] (next_of s.rest) s.rest

abbrev pub parent : List ℕ → List ℕ
parent [] = []
parent (i ∷ []) = []
parent (i ∷ j ∷ p) = i ∷ parent (j ∷ p)

abbrev pub gone_back : Standing → Standing
gone_back s = standing (parent s.path) s.rest false

-- without what lies at or below the node reached
abbrev pub pruned : Standing → Standing
pruned s = standing s.path (skip s.path s.rest) false
