use Rattle.std.proofs.Common.{[], ◌++◌}
use Rattle.hp_code.specs.Codes.{code_of}
use Rattle.hp_code.specs.CodeViews.{vars_at}
use Rattle.hp_code.specs.Listing.{node_lines}
use Rattle.hp_code.proofs.ListingSteps.{node_more}
use Rattle.hp_code.proofs.lines.push_nodes.Goals as goal

pub loop-index-preserved : goal.loop-index-preserved
loop-index-preserved c =
    let code = code_of c.args.code.now in
    node_more c.nodes-node-items.result.now code.nodes c.nodes-node-items.ensures c.loop-index.index c.node-item.result
    c.loop-index-test.true c.node-item.is (vars_at code) c.loop-index.vars.now c.names_from-vars.result.now
    c.loop-index.text.items c.push_node.new.text.items
    (c.args.text.now.items ++ node_lines (vars_at code) 0 [] code.nodes) c.loop-index.invariant
    c.names_from-vars.ensures c.in_ok-push_node.ensures
