use Rattle.std.proofs.Common.{ℕ, List}
use Rattle.hp_derivation.specs.Chains.{IsMidway, Reads}
use Rattle.hp_derivation.proofs.chain.Chain.list.Given as goal

abbrev pub invariant-loop : goal.invariant-loop
invariant-loop l =
    (xs : List ℕ) → Reads l.self xs → IsMidway l.self l.counter l.order.items l.at xs
