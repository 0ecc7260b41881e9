use Rattle.std.proofs.Common.{map}
use Rattle.std.proofs.lemmas.Result.{err_from_is_err_and}
use Rattle.hp_syntax.specs.Grammar as grammar
use Rattle.hp_syntax.specs.Views.{effect_of}
use Rattle.hp_terms.proofs.Turns.{one_refused, one_viewed, all_read}
use Rattle.hp_rules.proofs.effects.each_effect.Goals as goal

pub returns-in_err-effect : goal.returns-in_err-effect
returns-in_err-effect c =
    let p = err_from_is_err_and c.from_residual-in_err-effect.result c.from_residual-in_err-effect.ensures.1 in
    rw (p.1, p.2) (one_refused grammar.effect c.args.nodes.now c.loop-node.node-index c.node-item.result
    (map effect_of c.loop-node.effects.items) c.in_err-effect.field-0.0 _ _ c.loop-node-test.true
    c.loop-node.invariant (rw (← c.node-item.is) c.in_err-effect.ensures))

pub loop-node-preserved : goal.loop-node-preserved
loop-node-preserved c =
    let more = one_viewed effect_of grammar.effect c.args.nodes.now c.loop-node.node-index c.node-item.result
    c.loop-node.effects.items _ _ _ _ c.loop-node-test.true c.loop-node.invariant
    (rw (← c.node-item.is) c.in_ok-effect.ensures) in
    rw c.in_ok-push.ensures.items more

pub returns : goal.returns
returns c =
    all_read grammar.effect c.args.nodes.now c.loop-node.node-index (map effect_of c.loop-node.effects.items) _ _
    c.loop-node-test.false c.loop-node.invariant
