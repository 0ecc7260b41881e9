use Rattle.std.proofs.Common.{◌≡◌, drop, map}
use Rattle.hp_syntax.specs.Views.{effect_of}
use Rattle.hp_blame.specs.Patterns.{in_effects}
use Rattle.hp_blame.proofs.patterns.in_effects.Given as goal

abbrev pub invariant-loop-effect : goal.invariant-loop-effect
invariant-loop-effect l =
    in_effects l.span (map effect_of (drop l.effect-index l.effects)) ≡ in_effects l.span (map effect_of l.effects)
