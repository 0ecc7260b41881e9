use Rattle.std.proofs.Common.{◌≡◌, ◌++◌, drop, map}
use Rattle.std.specs.List.{flat_map}
use Rattle.hp_syntax.specs.Views.{clause_of}
use Rattle.hp_lint.specs.Variables.{clause_uses}
use Rattle.hp_lint.proofs.uses.Uses.clauses.Given as goal

abbrev pub invariant-loop-clause : goal.invariant-loop-clause
invariant-loop-clause l =
    l.self.list.items ++ flat_map clause_uses (map clause_of (drop l.clause-index l.clauses)) ≡ l.fn.self.list.items ++ flat_map clause_uses (map clause_of l.clauses)
