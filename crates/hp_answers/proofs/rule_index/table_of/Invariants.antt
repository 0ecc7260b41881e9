use Rattle.std.proofs.Common.{◌≡◌, ℕ, List, ◌++◌, map, drop}
use Rattle.hp_syntax.specs.Views.{rule_of}
use Rattle.hp_tables.specs.Tables.{places_in}
use Rattle.hp_answers.specs.RuleIndexes.{places_from}
use Rattle.hp_answers.proofs.rule_index.table_of.Given as goal

abbrev pub invariant-loop-place : goal.invariant-loop-place
invariant-loop-place l =
    (name : List ℕ)
    → places_from l.kind name 0 (map rule_of l.rules)
    ≡ places_in l.table name ++ places_from l.kind name l.place (map rule_of (drop l.place l.rules))
