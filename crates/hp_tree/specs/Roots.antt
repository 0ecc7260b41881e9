-- The root of a pair in memory.
use Rattle.std.specs.Prelude.{◌≡◌, ℕ, ◌≤◌, List, pos, [], length}
use Rattle.hp_syntax.specs.declared.limits.TheConstants.{GREATEST_DEPTH}
use Rattle.hp_syntax.specs.Terms.{Term}
use Rattle.hp_syntax.specs.Walk.{Node}
use Rattle.hp_tree.specs.declared.root.Root.{Root}
use Rattle.hp_tree.specs.SearchNodes.{HeldNode, IsHeldNode, node_of}
use Rattle.hp_world.specs.Histories.{History}
use Rattle.hp_world.specs.Pasts.{PastsBelow}
use Rattle.hp_world.specs.Recorded.{IndexesStood, Knows, history_in}
use Rattle.hp_world.specs.Stages.{Stage}

-- nothing stands
abbrev pub nothing : Stage
nothing = record { places = []; guards = [] }

-- nothing stands, and nothing was changed
abbrev pub untouched : History Stage
untouched = record { past = []; now = nothing }

-- the node of a root at a depth: no step was taken, and nothing was paid
abbrev pub held_root : Root → ℕ → HeldNode
held_root r depth = record {
  stage = r.world.now;
  network = r.net.now;
  steps = [];
  cost = pos 0;
  depth = depth;
}

-- a root is this node at each depth, where cells name these terms, and the indexes of its world know their atoms
pub record IsRoot (terms : List Term) (at : ℕ → Node) (r : Root) : Type 0 where
  pub node : (depth : ℕ) → node_of terms (held_root r depth) ≡ at depth
  pub below : (depth : ℕ) → depth ≤ GREATEST_DEPTH → IsHeldNode (length terms) (held_root r depth)
  pub knows : Knows terms r.world
  pub stood : IndexesStood r.world
  pub pasts : PastsBelow (length terms) (history_in r.world)
