use Rattle.std.proofs.Common.{map, refl}
use Rattle.std.specs.List.{flat_map}
use Rattle.hp_syntax.specs.Views.{effect_of}
use Rattle.hp_syntax.proofs.ListLemmas.{made_on}
use Rattle.hp_lint.specs.Asking.{added_by}
use Rattle.hp_lint.proofs.asking.all_added.Goals as goal

pub loop-effect-preserved : goal.loop-effect-preserved
loop-effect-preserved c =
    made_on (λ ys. flat_map added_by (map effect_of ys)) (λ y. added_by (effect_of y)) c.args.effects.now c.loop-effect.effect-index c.effect-item.result
    _ _ _ (λ y ys. refl) c.loop-effect-test.true c.effect-item.is c.loop-effect.invariant c.in_ok-added_by.ensures
