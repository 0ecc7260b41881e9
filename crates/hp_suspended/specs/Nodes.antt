-- What the nodes of a code read back as: the expression of a node, those of the nodes between two indices, and the
-- branches of an axiom.
use Rattle.std.specs.Prelude.{ℕ, List, Option, Some, None, slice_get}
use Rattle.std.specs.Option.{option_and_then}
use Rattle.hp_syntax.specs.Syntax.{Atom, Clause, Expression, Expressions}
use Rattle.hp_code.specs.CodeViews.{CodeView}
use Rattle.hp_code.specs.Sources.{expression_read, expressions_read, clauses_read}
use Rattle.hp_nodes.specs.Trees.{Tree, Node, AxiomOf, Holds, Operation, tree_at, trees_between}

-- the expression that a node reads back as, if it is one's
unfoldable pub expression_at : CodeView → ℕ → Option Expression
expression_at c i = option_and_then expression_read (tree_at c.nodes i)

-- the expressions that the nodes from one index up to another read back as
unfoldable pub expressions_in : CodeView → ℕ → ℕ → Option Expressions
expressions_in c i to = expressions_read (trees_between c.nodes i to)

-- the branches of an axiom that the nodes from one index up to another read back as
unfoldable pub clauses_in : CodeView → ℕ → ℕ → Option (List Clause)
clauses_in c i to = clauses_read (trees_between c.nodes i to)

-- the atom of a node, if it is one's
abbrev pub atom_done : Operation → Option Atom
atom_done (Holds a) = Some a
atom_done _ = None

unfoldable pub atom_at : CodeView → ℕ → Option Atom
atom_at c i = option_and_then (λ l. atom_done l.op) (slice_get c.nodes i)

-- the head of an axiom that a tree is, if it is one's
abbrev pub head_read : Tree → Option Atom
head_read (Node (AxiomOf head) s ts) = Some head
head_read _ = None

-- the head of the axiom of a node
unfoldable pub head_at : CodeView → ℕ → Option Atom
head_at c i = option_and_then head_read (tree_at c.nodes i)
