-- What a planner tells of the decompositions that led to the node reached, and of the nodes between them.
use Rattle.std.specs.Prelude.{◌≡◌, ◌≢◌, ◌+◌, ◌<◌, ℕ, List, [], length, take, slice_get, Option, Some, None}
use Rattle.hp_syntax.specs.Networks.{Place}
use Rattle.hp_syntax.specs.Syntax.{Rule}
use Rattle.hp_syntax.specs.Terms.{Term}
use Rattle.hp_syntax.specs.Walk.{Node, node_at}
use Rattle.hp_laws.specs.Derivations.{IsNext, Leads, situation_at}
use Rattle.hp_eval.specs.GoalViews.{term_at}
use Rattle.hp_net.specs.Standings.{node_reached, parent}
use Rattle.hp_world.specs.Stages.{Stage, StageBelow, guards_of, state_of}
use Rattle.hp_choice.specs.Served.{ServesBy}
use Rattle.hp_search.specs.declared.decomposition.Decomposition.{Decomposition}
use Rattle.hp_search.specs.Planned.{Planned, stands_planned, tree_planned}

-- a choice of the candidate, the rule and some event leads from a node to another; the task stands at the candidate,
-- and the rule serves it by the branch
pub record LedTo (rules : List Rule) (nest : ℕ) (terms : List Term) (n m : Node) (d : Decomposition) : Type 0 where
  pub event : ℕ
  pub leads : Leads rules nest (record { candidate = d.candidate; rule = d.rule; event = event }) n m
  pub place : Place
  pub next : IsNext (situation_at n) d.candidate place (term_at terms d.task)
  pub own : Rule
  pub is : slice_get rules d.rule ≡ Some own
  pub serves : ServesBy rules nest n.state (term_at terms d.task) own d.branch

-- below the root the decomposition leads from the parent to the node reached, and its task is one of the terms
pub record IsLed (p : Planned) (d : Decomposition) : Type 0 where
  pub below : (stands_planned p).path ≢ []
  pub above : Node
  pub there : node_at (tree_planned p).rules p.nest (tree_planned p).root (parent (stands_planned p).path) ≡ Some above
  pub reached : Node
  pub here : node_reached (tree_planned p) (stands_planned p) ≡ Some reached
  pub led : LedTo (tree_planned p).rules p.nest p.terms above reached d
  pub named : d.task < length p.terms

-- at the root, and there alone, there is none
abbrev pub TellsDecomposition : Planned → Option Decomposition → Type 0
TellsDecomposition p None = (stands_planned p).path ≡ []
TellsDecomposition p (Some d) = IsLed p d

-- ---- the nodes on the path

-- the node that so many numbers of the path reach, from the first on
abbrev pub node_on : Planned → ℕ → Option Node
node_on p k = node_at (tree_planned p).rules p.nest (tree_planned p).root (take k (stands_planned p).path)

-- the decomposition leads from the node that so many numbers of the path reach to the one that one more does, and its
-- task is one of the terms
pub record IsLedAt (p : Planned) (k : ℕ) (d : Decomposition) : Type 0 where
  pub above : Node
  pub there : node_on p k ≡ Some above
  pub reached : Node
  pub here : node_on p (k + 1) ≡ Some reached
  pub led : LedTo (tree_planned p).rules p.nest p.terms above reached d
  pub named : d.task < length p.terms

-- a stage is that of the node which so many numbers of the path reach, and its cells are among the terms
pub record IsStageAt (p : Planned) (k : ℕ) (g : Stage) : Type 0 where
  pub node : Node
  pub there : node_on p k ≡ Some node
  pub state : state_of p.terms g ≡ node.state
  pub guards : guards_of p.terms g ≡ node.guards
  pub below : StageBelow (length p.terms) g
