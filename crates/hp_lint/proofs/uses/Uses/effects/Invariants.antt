use Rattle.std.proofs.Common.{◌≡◌, ◌++◌, drop, map}
use Rattle.std.specs.List.{flat_map}
use Rattle.hp_syntax.specs.Views.{effect_of}
use Rattle.hp_lint.specs.Variables.{effect_uses}
use Rattle.hp_lint.proofs.uses.Uses.effects.Given as goal

abbrev pub invariant-loop-effect : goal.invariant-loop-effect
invariant-loop-effect l =
    l.self.list.items ++ flat_map effect_uses (map effect_of (drop l.effect-index l.effects)) ≡ l.fn.self.list.items ++ flat_map effect_uses (map effect_of l.effects)
