use Rattle.std.proofs.Common.{map, refl}
use Rattle.std.specs.List.{flat_map}
use Rattle.hp_syntax.specs.Views.{effect_of}
use Rattle.hp_syntax.proofs.ListLemmas.{made_on}
use Rattle.hp_lint.specs.Variables.{effect_unbound}
use Rattle.hp_lint.specs.LintViews.{is_seen}
use Rattle.hp_lint.proofs.variables.tell_effects.Goals as goal

pub loop-effect-preserved : goal.loop-effect-preserved
loop-effect-preserved c =
    made_on (λ ys. flat_map (effect_unbound c.args.names.now (is_seen c.args.around.now)) (map effect_of ys)) (λ y. effect_unbound c.args.names.now (is_seen c.args.around.now) (effect_of y)) c.args.effects.now c.loop-effect.effect-index
    c.effect-item.result _ _ _ (λ y ys. refl) c.loop-effect-test.true c.effect-item.is c.loop-effect.invariant
    c.in_ok-tell_effect.ensures
