-- One pair of a problem, and what follows it.
use Rattle.hp_syntax.specs.declared.pattern.Span.{Span}
use Rattle.hp_syntax.specs.declared.form.What.TheVariants as wants
use Rattle.hp_syntax.specs.Forest.{Forest}
use Rattle.hp_syntax.specs.Steps.{Parse, ◌>>=◌, pure, next}
use Rattle.hp_syntax.specs.Syntax.{Pair}
use Rattle.hp_syntax.specs.Grammar.{InProblem, atoms, make_pair, tasks}

unfoldable pub pair : Span → Forest → Parse (Pair × Forest)
pair end f = do
  x ← next wants.Atoms end f
  state ← atoms InProblem x.0
  y ← next wants.Tasks end x.1
  ts ← tasks InProblem y.0
  pure (make_pair state ts, y.1)
