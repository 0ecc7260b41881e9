use Rattle.std.proofs.lemmas.Result.{err_from_is_err_and}
use Rattle.hp_syntax.specs.Grammar as grammar
use Rattle.hp_terms.proofs.Turns.{one_refused, one_read, all_read}
use Rattle.hp_terms.proofs.scope.Scope.each_variable.Goals as goal

pub returns-in_err-variable : goal.returns-in_err-variable
returns-in_err-variable c =
    let p = err_from_is_err_and c.from_residual-in_err-variable.result c.from_residual-in_err-variable.ensures.1 in
    rw (p.1, p.2) (one_refused grammar.variable c.args.nodes.now c.loop-node.node-index c.node-item.result
    c.loop-node.variables.items c.in_err-variable.field-0.0 _ _ c.loop-node-test.true
    c.loop-node.invariant (rw (← c.node-item.is) c.in_err-variable.ensures))

pub loop-node-preserved : goal.loop-node-preserved
loop-node-preserved c =
    let more = one_read grammar.variable c.args.nodes.now c.loop-node.node-index c.node-item.result
    c.loop-node.variables.items _ _ _ _ c.loop-node-test.true c.loop-node.invariant
    (rw (← c.node-item.is) c.in_ok-variable.ensures) in
    rw c.in_ok-push.ensures.items more

pub returns : goal.returns
returns c =
    all_read grammar.variable c.args.nodes.now c.loop-node.node-index c.loop-node.variables.items _ _
    c.loop-node-test.false c.loop-node.invariant
