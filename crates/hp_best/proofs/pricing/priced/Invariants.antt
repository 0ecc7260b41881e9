use Rattle.std.proofs.Common.{◌≡◌, map}
use Rattle.hp_syntax.specs.Views.{rule_of}
use Rattle.hp_best.specs.Bounded.{is_priced}
use Rattle.hp_best.proofs.PriceSteps.{priced_from}
use Rattle.hp_best.proofs.pricing.priced.Given as goal

abbrev pub invariant-loop-rule : goal.invariant-loop-rule
invariant-loop-rule l = priced_from l.domain.rules.items l.rule-index ≡ is_priced (map rule_of l.domain.rules.items)
