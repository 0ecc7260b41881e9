use Rattle.std.proofs.Common.{◌-◌}
use Rattle.hp_code.specs.CodeViews.{rules_in}
use Rattle.hp_code.specs.Codes.{code_of}
use Rattle.hp_syntax.specs.Views.{pair_of}
use Rattle.hp_shallow.proofs.Deepened.{IsDown}
use Rattle.hp_shallow.proofs.deepening.shallow.Given as goal

abbrev pub invariant-loop-least : goal.invariant-loop-least
invariant-loop-least l = IsDown (rules_in (code_of l.code)) l.nest (pair_of l.pair) l.limit l.least

abbrev pub decreases-loop-least : goal.decreases-loop-least
decreases-loop-least l = l.limit - l.least.depth
