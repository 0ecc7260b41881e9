-- One branch of a method or an axiom, and what follows it.
use Rattle.std.specs.Prelude.{ℕ, cond, List, Option, Some, None}
use Rattle.hp_syntax.specs.declared.pattern.Span.{Span}
use Rattle.hp_syntax.specs.declared.form.What.{What}
use Rattle.hp_syntax.specs.declared.form.What.TheVariants as wants
use Rattle.hp_syntax.specs.Forest.{Node, Forest}
use Rattle.hp_syntax.specs.Steps.{Parse, ◌>>=◌, ◌<$>◌, pure, next}
use Rattle.hp_syntax.specs.Syntax.{Branch, Clause}
use Rattle.hp_syntax.specs.Grammar.{InRule, begins_named, branch_name, make_branch, make_clause, precondition, tasks, expression}

abbrev pub name_if_any : Node → Parse (Option (List ℕ))
name_if_any n = cond (begins_named n) (Some <$> branch_name n) (pure None)

-- the node behind a branch's name, or the first one of a branch without a name
abbrev pub behind_name : What → Span → Node → Forest → Option (List ℕ) → Parse (Option (List ℕ) × (Node × Forest))
behind_name what end first rest None = pure (None, (first, rest))
behind_name what end first rest (Some text) = (λ x. (Some text, x)) <$> next what end rest

unfoldable pub start : What → Span → Forest → Parse (Option (List ℕ) × (Node × Forest))
start what end f = do
  x ← next what end f
  text ← name_if_any x.0
  behind_name what end x.0 x.1 text

unfoldable pub branch : Span → Forest → Parse (Branch × Forest)
branch end f = do
  x ← start wants.Pre end f
  p ← precondition x.1.0
  y ← next wants.Tasks end x.1.1
  t ← tasks InRule y.0
  pure (make_branch x.0 p t, y.1)

unfoldable pub clause : Span → Forest → Parse (Clause × Forest)
clause end f = do
  x ← start wants.Expr end f
  e ← expression x.1.0
  pure (make_clause x.0 e, x.1.1)
