use Rattle.std.proofs.Common.{◌≡◌, drop, map}
use Rattle.hp_syntax.specs.Views.{clause_of}
use Rattle.hp_nodes.specs.Compiled.{clause_trees}
use Rattle.hp_nodes.proofs.LayingLemmas.{laid_behind}
use Rattle.hp_nodes.proofs.rules.lay_clauses.Given as goal

abbrev pub invariant-loop-clause : goal.invariant-loop-clause
invariant-loop-clause l =
    laid_behind l.nodes.items (clause_trees l.span (map clause_of (drop l.clause-index l.clauses)))
    ≡ laid_behind l.fn.nodes.items (clause_trees l.span (map clause_of l.clauses))
