use Rattle.std.proofs.Common.{map, take}
use Rattle.hp_syntax.specs.Views.{rule_of}
use Rattle.hp_code.specs.Lowerings.{Holds}
use Rattle.hp_code.proofs.lowering.lower.Given as goal

abbrev pub invariant-loop-rule : goal.invariant-loop-rule
invariant-loop-rule l = Holds (map rule_of (take l.rule-index l.domain.rules.items)) l.lowering
