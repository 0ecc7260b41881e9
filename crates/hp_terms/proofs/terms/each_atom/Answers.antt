use Rattle.std.proofs.Common.{map}
use Rattle.std.proofs.lemmas.Result.{err_from_is_err_and}
use Rattle.hp_syntax.specs.Grammar as grammar
use Rattle.hp_syntax.specs.Views.{atom_of}
use Rattle.hp_terms.specs.FormReads.{setting_of}
use Rattle.hp_terms.proofs.Turns.{one_refused, one_viewed, all_read}
use Rattle.hp_terms.proofs.terms.each_atom.Goals as goal

pub returns-in_err-atom : goal.returns-in_err-atom
returns-in_err-atom c =
    let p = err_from_is_err_and c.from_residual-in_err-atom.result c.from_residual-in_err-atom.ensures.1 in
    rw (p.1, p.2) (one_refused (grammar.atom (setting_of c.args.setting)) c.args.nodes.now c.loop-node.node-index
    c.node-item.result (map atom_of c.loop-node.atoms.items) c.in_err-atom.field-0.0 _ _ c.loop-node-test.true
    c.loop-node.invariant (rw (← c.node-item.is) c.in_err-atom.ensures))

pub loop-node-preserved : goal.loop-node-preserved
loop-node-preserved c =
    let more = one_viewed atom_of (grammar.atom (setting_of c.args.setting)) c.args.nodes.now c.loop-node.node-index
    c.node-item.result c.loop-node.atoms.items _ _ _ _ c.loop-node-test.true c.loop-node.invariant
    (rw (← c.node-item.is) c.in_ok-atom.ensures) in
    rw c.in_ok-push.ensures.items more

pub returns : goal.returns
returns c =
    all_read (grammar.atom (setting_of c.args.setting)) c.args.nodes.now c.loop-node.node-index
    (map atom_of c.loop-node.atoms.items) _ _ c.loop-node-test.false c.loop-node.invariant
