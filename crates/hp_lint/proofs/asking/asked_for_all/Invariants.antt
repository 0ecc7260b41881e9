use Rattle.std.proofs.Common.{◌≡◌, ◌++◌, drop, map}
use Rattle.std.specs.List.{flat_map}
use Rattle.hp_syntax.specs.Views.{effect_of}
use Rattle.hp_lint.specs.Asking.{asked_for}
use Rattle.hp_lint.specs.LintViews.{lent_atoms}
use Rattle.hp_lint.proofs.asking.asked_for_all.Given as goal

abbrev pub invariant-loop-effect : goal.invariant-loop-effect
invariant-loop-effect l =
    lent_atoms l.list.items ++ flat_map asked_for (map effect_of (drop l.effect-index l.effects)) ≡ lent_atoms l.fn.list.items ++ flat_map asked_for (map effect_of l.effects)
