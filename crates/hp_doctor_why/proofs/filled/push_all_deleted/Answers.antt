use Rattle.std.proofs.Common.{refl, map}
use Rattle.std.specs.List.{flat_map}
use Rattle.hp_syntax.proofs.ListLemmas.{made_on}
use Rattle.hp_syntax.specs.GroundViews.{ground_of}
use Rattle.hp_syntax.specs.Views.{effect_of}
use Rattle.hp_doctor_why.specs.Filled.{deleted_text}
use Rattle.hp_doctor_why.proofs.filled.push_all_deleted.Goals as goal

pub loop-effect-preserved : goal.loop-effect-preserved
loop-effect-preserved c =
    let text = deleted_text c.args.names.now (map ground_of c.args.guards.now) in
    made_on (λ ys. flat_map text (map effect_of ys)) (λ y. text (effect_of y)) c.args.effects.now
    c.loop-effect.effect-index c.effect-item.result _ _ _ (λ y ys. refl) c.loop-effect-test.true c.effect-item.is
    c.loop-effect.invariant c.in_ok-push_deleted.ensures
