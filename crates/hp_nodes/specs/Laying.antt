-- Trees that are laid down behind nodes. A node is opened with 0 for its end, then what is below it is laid down, and
-- then it is closed.
use Rattle.std.specs.Prelude.{◌≡◌, ℕ, zero, suc, List, [], ◌∷◌, ◌++◌, map, length}
use Rattle.hp_syntax.specs.declared.pattern.Span.{Span}
use Rattle.hp_nodes.specs.declared.node.CodeNode.{CodeNode}
use Rattle.hp_nodes.specs.NodeViews.{laid_of}
use Rattle.hp_nodes.specs.Trees.{Operation, Laid, Trees, all_laid}

-- trees were laid down behind the nodes that there were
abbrev pub Lays : Trees → List CodeNode → List CodeNode → Type 0
Lays ts old new = map laid_of new ≡ map laid_of old ++ all_laid (length old) ts

-- a node was opened behind the nodes that there were, and this is its index
pub record Opens (op : Operation) (s : Span) (at : ℕ) (old new : List CodeNode) : Type 0 where
  pub index : at ≡ length old
  pub behind : map laid_of new ≡ map laid_of old ++ record { op = op; to = 0; span = s } ∷ []

-- nodes, of which the one with this index ends here
abbrev pub with_end : ℕ → ℕ → List Laid → List Laid
with_end at to [] = []
with_end zero to (n ∷ ns) = record n { to = to } ∷ ns
with_end (suc at) to (n ∷ ns) = n ∷ with_end at to ns

-- the node with this index was made to end behind all nodes
abbrev pub Closes : ℕ → List CodeNode → List CodeNode → Type 0
Closes at old new = map laid_of new ≡ with_end at (length old) (map laid_of old)
