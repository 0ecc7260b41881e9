use Rattle.std.proofs.Common.{◌≡◌, ◌++◌, drop}
use Rattle.hp_syntax.specs.Views.{expressions_of}
use Rattle.hp_syntax.specs.Written as written
use Rattle.hp_syntax.specs.Written.{rest_text}
use Rattle.hp_print.proofs.expressions.+expression.Given as goal

abbrev pub invariant-push_expressions-loop-part : goal.invariant-push_expressions-loop-part
invariant-push_expressions-loop-part l =
    l.text.items ++ rest_text (written.expressions l.vars (expressions_of (drop l.part-index l.parts)))
    ≡ l.fn.text.items ++ rest_text (written.expressions l.vars (expressions_of l.parts))
