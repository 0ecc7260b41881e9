use Rattle.std.proofs.Common.{◌≡◌, ◌++◌, false, drop, map}
use Rattle.hp_syntax.specs.Views.{clause_of}
use Rattle.hp_lint.specs.Branches.{hidden_clauses}
use Rattle.hp_lint.specs.LintViews.{remark_of}
use Rattle.hp_lint.proofs.branches.tell_clauses.Given as goal

abbrev pub invariant-loop-clause : goal.invariant-loop-clause
invariant-loop-clause l =
    map remark_of l.report.list.items ++ hidden_clauses l.hidden (map clause_of (drop l.clause-index l.clauses))
    ≡ map remark_of l.fn.report.list.items ++ hidden_clauses false (map clause_of l.clauses)
