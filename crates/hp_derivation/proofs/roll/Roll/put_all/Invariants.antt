use Rattle.std.proofs.Common.{ℕ, List}
use Rattle.hp_derivation.specs.declared.roll.Stood.{Stood}
use Rattle.hp_derivation.specs.Rolls.{IsRoll}
use Rattle.hp_derivation.proofs.RollSteps.{IsPutUpTo}
use Rattle.hp_derivation.proofs.roll.Roll.put_all.Given as goal

abbrev pub invariant-loop : goal.invariant-loop
invariant-loop l =
    (ts : List Stood) (xs : List ℕ) → IsRoll l.fn.self ts xs
    → IsPutUpTo l.self l.task l.behind l.counter l.count ts xs
