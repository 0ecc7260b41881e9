use Rattle.std.proofs.Common.{◌≡◌, ◌++◌, drop}
use Rattle.hp_syntax.specs.Written as written
use Rattle.hp_syntax.specs.Written.{rest_text}
use Rattle.hp_print.proofs.terms.push_more_variables.Given as goal

abbrev pub invariant-loop-v : goal.invariant-loop-v
invariant-loop-v l =
    l.text.items ++ rest_text (written.variables l.vars (drop l.v-index l.list))
    ≡ l.fn.text.items ++ rest_text (written.variables l.vars l.list)
