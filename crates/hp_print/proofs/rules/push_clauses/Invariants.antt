use Rattle.std.proofs.Common.{◌≡◌, ◌++◌, drop, map}
use Rattle.hp_syntax.specs.Views.{clause_of}
use Rattle.hp_syntax.specs.Written as written
use Rattle.hp_syntax.specs.Written.{rest_text}
use Rattle.hp_print.proofs.rules.push_clauses.Given as goal

abbrev pub invariant-loop-clause : goal.invariant-loop-clause
invariant-loop-clause l =
    l.text.items ++ rest_text (written.clauses l.vars (map clause_of (drop l.clause-index l.list)))
    ≡ l.fn.text.items ++ rest_text (written.clauses l.vars (map clause_of l.list))
