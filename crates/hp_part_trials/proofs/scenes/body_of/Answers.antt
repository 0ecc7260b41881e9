use Rattle.std.proofs.Common.{◌≡◌, ◌+◌, ◌<◌, length, Some, ap, sym, ◌∙◌, subst, arith, slice_get, slice_index_or}
use Rattle.std.proofs.lemmas.Option.{slice_get-get_or}
use Rattle.hp_nodes.specs.declared.node.CodeNode.{CodeNode}
use Rattle.hp_nodes.specs.NodeViews.{laid_of}
use Rattle.hp_code.specs.Codes.{code_of}
use Rattle.hp_suspended.proofs.NodeReadings.{node_read}
use Rattle.hp_part_trials.proofs.scenes.body_of.Goals as goal

pub returns-in-len1 : goal.returns-in-len1
returns-in-len1 c =
    let code = code_of c.args.code.now in
    let rules = c.axiom_rules-rules.result.now in
    let nodes = c.nodes-nodes.result.now in
    let first = slice_index_or rules 0 0 in
    let node = c.index-nodes-axiom.result in
    let named : slice_get (code.axiom_rules c.args.name.now) 0 ≡ Some first =
    ap (λ xs. slice_get xs 0) (sym c.axiom_rules-rules.ensures)
    ∙ slice_get-get_or rules 0 0 (omega (arith, c.in-len1.len_at_least, c.in-len1.len_below)) in
    let within : first < length nodes = omega (arith, c.if-axiom-nodes.true) in
    let there =
    node_read nodes code c.nodes-nodes.ensures first node
    (slice_get-get_or nodes first node within ∙ ap Some (sym c.index-nodes-axiom.is)) in
    c.branches_hold_expressions.ensures code c.args.name.now 0 first (laid_of node) c.args.code.now.kept named there
    (subst (λ (x : CodeNode). first + 1 < x.to) (sym c.index-nodes-axiom.is) c.if-axiom-nodes-2.true)
