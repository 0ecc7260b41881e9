-- The search nodes of this engine.
use Rattle.std.specs.Prelude.{ℕ, List}
use Rattle.hp_syntax.specs.Terms.{Term}
use Rattle.hp_syntax.specs.Walk.{Node}
use Rattle.hp_tree.specs.SearchNodes.{HeldNode, node_of, IsHeldNode}
use Rattle.hp_plain.specs.declared.search_node.SearchNode.{SearchNode}

-- a search node as it stands in memory, apart from its world's pasts
abbrev pub held : SearchNode → HeldNode
held s = record {
  stage = s.world.now;
  network = s.net.now;
  steps = s.steps.items;
  cost = s.cost;
  depth = s.depth;
}

-- the node of the tree that it is, where cells name these terms
abbrev pub node_in : List Term → SearchNode → Node
node_in terms s = node_of terms (held s)

-- each of its cells is below a count, and its steps cost no more than they can
abbrev pub IsSearchNode : ℕ → SearchNode → Type 0
IsSearchNode n s = IsHeldNode n (held s)
