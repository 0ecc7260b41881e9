-- What the nodes of a code read back as: the precondition of a node, and an expression that asks for nothing.
use Rattle.std.specs.Prelude.{◌≡◌, ℕ, Bool, true, false, Option, Some, is_some}
use Rattle.std.specs.Option.{option_and_then}
use Rattle.hp_syntax.specs.Syntax.{And, Expression, NoExpression, Precondition}
use Rattle.hp_code.specs.CodeViews.{CodeView}
use Rattle.hp_code.specs.Sources.{precondition_read}
use Rattle.hp_nodes.specs.Trees.{tree_at}

-- the precondition that a node reads back as, if it is one's
unfoldable pub precondition_at : CodeView → ℕ → Option Precondition
precondition_at c i = option_and_then precondition_read (tree_at c.nodes i)

-- the node is one of a precondition
abbrev pub IsPreconditionAt : CodeView → ℕ → Type 0
IsPreconditionAt c i = is_some (precondition_at c i) ≡ true

-- an expression that asks for nothing is the conjunction of no parts
abbrev pub asks_nothing : Option Expression → Bool
asks_nothing (Some (And s NoExpression)) = true
asks_nothing _ = false
