use Rattle.std.proofs.Common.{◌≡◌, ◌++◌, drop, map}
use Rattle.std.specs.List.{flat_map}
use Rattle.hp_syntax.specs.Views.{clause_of}
use Rattle.hp_lint.specs.Asking.{asked_by_clause}
use Rattle.hp_lint.specs.LintViews.{lent_atoms}
use Rattle.hp_lint.proofs.asking.asked_by_clauses.Given as goal

abbrev pub invariant-loop-clause : goal.invariant-loop-clause
invariant-loop-clause l =
    lent_atoms l.list.items ++ flat_map asked_by_clause (map clause_of (drop l.clause-index l.clauses)) ≡ lent_atoms l.fn.list.items ++ flat_map asked_by_clause (map clause_of l.clauses)
