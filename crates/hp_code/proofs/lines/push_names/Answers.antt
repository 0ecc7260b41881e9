use Rattle.std.proofs.Common.{◌++◌}
use Rattle.hp_code.specs.Codes.{code_of}
use Rattle.hp_code.specs.Listing.{name_lines, table_of}
use Rattle.hp_code.proofs.ListingSteps.{name_more}
use Rattle.hp_code.proofs.lines.push_names.Goals as goal

pub loop-index-preserved : goal.loop-index-preserved
loop-index-preserved c =
    let code = code_of c.args.code.now in
    let table = table_of code c.args.kind in
    name_more c.nodes-node-items.result.now code.nodes c.nodes-node-items.ensures c.loop-index.index c.node-item.result
    c.loop-index-test.true c.node-item.is c.args.kind table c.loop-index.text.items c.push_head.new.text.items
    (c.args.text.now.items ++ name_lines c.args.kind table 0 code.nodes) c.loop-index.invariant
    c.in_ok-push_head.ensures
