use Rattle.std.proofs.Common.{◌≡◌, ◌++◌, drop, map}
use Rattle.std.specs.List.{flat_map}
use Rattle.hp_syntax.specs.Views.{effect_of}
use Rattle.hp_lint.specs.Variables.{effect_unbound}
use Rattle.hp_lint.specs.LintViews.{is_seen, remark_of}
use Rattle.hp_lint.proofs.variables.tell_effects.Given as goal

abbrev pub invariant-loop-effect : goal.invariant-loop-effect
invariant-loop-effect l =
    map remark_of l.report.list.items ++ flat_map (effect_unbound l.names (is_seen l.around)) (map effect_of (drop l.effect-index l.effects))
    ≡ map remark_of l.fn.report.list.items ++ flat_map (effect_unbound l.names (is_seen l.around)) (map effect_of l.effects)
