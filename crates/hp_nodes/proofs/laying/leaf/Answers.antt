use Rattle.hp_nodes.specs.Trees.{NoTree}
use Rattle.hp_nodes.proofs.LayingLemmas.{open_within, node_lays, nothing_lays}
use Rattle.hp_nodes.proofs.laying.leaf.Goals as goal

pub close_node-requires : goal.close_node-requires
close_node-requires c =
    let opened = c.open_node.new.nodes.items in
    open_within c.in_ok-at.ensures NoTree opened (nothing_lays opened)

pub returns : goal.returns
returns c =
    let opened = c.open_node.new.nodes.items in
    node_lays c.in_ok-at.ensures NoTree opened c.close_node.new.nodes.items (nothing_lays opened) c.close_node.ensures
