use Rattle.std.proofs.Common.{map, drop}
use Rattle.hp_syntax.specs.Views.{domain_of, tasks_of}
use Rattle.hp_way.specs.Ways.{deed_of}
use Rattle.hp_derivation.specs.Derived.{after, first_stage}
use Rattle.hp_derivation.proofs.GoingSteps.{IsOnTheWay}
use Rattle.hp_derivation.proofs.derivation.derivation_of.Given as goal

abbrev pub invariant-loop-number : goal.invariant-loop-number
invariant-loop-number l =
    IsOnTheWay l.going (domain_of l.domain).rules l.number (map deed_of (drop l.number l.deeds))
    (after (domain_of l.domain).rules 0 (map deed_of l.deeds) (first_stage (tasks_of l.pair.tasks)))
