-- The nodes of the tree as they stand in memory, whatever engine holds them.
use Rattle.std.specs.Prelude.{ℕ, ◌-◌, ◌*◌, ◌^◌, ◌≤◌, ℤ, pos, neg_ℤ, ◌≤ℤ◌, List}
use Rattle.std.specs.List.{All}
use Rattle.hp_syntax.specs.declared.limits.TheConstants.{GREATEST_DEPTH}
use Rattle.hp_syntax.specs.Terms.{Term}
use Rattle.hp_syntax.specs.Walk.{Node}
use Rattle.hp_world.specs.Stages.{Stage, AllBelow, StageBelow, terms_at, state_of, guards_of}
use Rattle.hp_links.specs.Linked.{Linked, focused, PartBelow}

-- a search node as it stands in memory: the stage of its world, its network, the cells of its steps, their cost, and
-- the number of decompositions that may follow
pub record HeldNode : Type 0 where
  pub stage : Stage
  pub network : Linked
  pub steps : List ℕ
  pub cost : ℤ
  pub depth : ℕ

-- the node of the tree that it is, where cells name these terms
abbrev pub node_of : List Term → HeldNode → Node
node_of terms h = record {
  state = state_of terms h.stage;
  guards = guards_of terms h.stage;
  network = (focused terms h.network).0;
  focus = (focused terms h.network).1;
  steps = terms_at terms h.steps;
  cost = h.cost;
  depth = h.depth;
}

-- the most that the steps can cost where so many decompositions may follow
abbrev pub most_cost : ℕ → ℕ
most_cost depth = (GREATEST_DEPTH - depth) * 2 ^ 63

-- each cell of a node is below a count, and its steps cost no more than they can
pub record IsHeldNode (n : ℕ) (h : HeldNode) : Type 0 where
  pub stage : StageBelow n h.stage
  pub network : All (PartBelow n) h.network.parts
  pub steps : AllBelow n h.steps
  pub depth : h.depth ≤ GREATEST_DEPTH
  pub low : neg_ℤ (pos (most_cost h.depth)) ≤ℤ h.cost
  pub high : h.cost ≤ℤ pos (most_cost h.depth)
