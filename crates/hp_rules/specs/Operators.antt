-- The parts of an operator, in the order in which they stand.
use Rattle.std.specs.Prelude.{List}
use Rattle.hp_syntax.specs.declared.pattern.Span.{Span}
use Rattle.hp_syntax.specs.declared.form.What.TheVariants as wants
use Rattle.hp_syntax.specs.Forest.{Forest}
use Rattle.hp_syntax.specs.Names.{is_primitive}
use Rattle.hp_syntax.specs.Steps.{Parse, ◌>>=◌, pure, closing, next, names_so_far}
use Rattle.hp_syntax.specs.Syntax.{Atom, Precondition, Effect, Rule, Does}
use Rattle.hp_syntax.specs.Grammar.{InRule, headed, precondition, effects, cost}

-- the head and the precondition, and what follows them
unfoldable pub opening : Span → Forest → Parse (Atom × (Precondition × Forest))
opening s rest = do
  h ← next wants.Head (closing s) rest
  head ← headed wants.Head is_primitive InRule h.0
  p ← next wants.Pre (closing s) h.1
  pre ← precondition p.0
  pure (head, (pre, p.1))

-- the delete and the add list, and what follows them
unfoldable pub changes : Span → Forest → Parse (List Effect × (List Effect × Forest))
changes s rest = do
  d ← next wants.Effects (closing s) rest
  dels ← effects d.0
  a ← next wants.Effects (closing s) d.1
  adds ← effects a.0
  pure (dels, (adds, a.1))

-- an operator, by these parts
unfoldable pub operator : Span → Forest → Parse Rule
operator s rest = do
  x ← opening s rest
  y ← changes s x.1.1
  price ← cost s y.1.1
  vars ← names_so_far
  pure (Does (record { span = s; vars = vars; head = x.0; pre = x.1.0; dels = y.0; adds = y.1.0; cost = price }))
