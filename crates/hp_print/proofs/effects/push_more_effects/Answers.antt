use Rattle.std.proofs.Common.{codes, map, refl}
use Rattle.hp_syntax.specs.Views.{effect_of}
use Rattle.hp_syntax.specs.Written as written
use Rattle.hp_syntax.specs.Written.{node_text, rest_text}
use Rattle.hp_print.proofs.WrittenLists.{spaced_on, all_and_more}
use Rattle.hp_print.proofs.effects.push_more_effects.Goals as goal

pub loop-effect-preserved : goal.loop-effect-preserved
unfolding rest_text
loop-effect-preserved c =
    let vars = c.args.vars.now in
    spaced_on (λ es. rest_text (written.effects vars (map effect_of es)))
    (λ e. node_text (written.effect vars (effect_of e))) c.args.list.now c.loop-effect.effect-index c.effect-item.result
    c.loop-effect.text.items c.push.new.self.items _ _ (λ e es. refl) c.loop-effect-test.true c.effect-item.is
    c.loop-effect.invariant c.in_ok-push.ensures.items c.in_ok-push_effect.ensures

pub returns : goal.returns
unfolding rest_text
returns c =
    all_and_more c.extend_from_slice.result (λ es. rest_text (written.effects c.args.vars.now (map effect_of es)))
    c.args.list.now c.loop-effect.effect-index c.loop-effect.text.items _ _ c.loop-effect-test.false
    c.loop-effect.invariant (codes ")") refl c.extend_from_slice.ensures.items
