use Rattle.hp_nodes.proofs.LayingLemmas.{open_within_more, node_lays_more}
use Rattle.hp_nodes.proofs.effects.lay_each.Goals as goal

pub close_node-requires : goal.close_node-requires
close_node-requires c =
    open_within_more c.in_ok-at.ensures _ _ c.lay_expression.new.nodes.items c.lay_changes.new.nodes.items
    c.in_ok-lay_expression.ensures c.in_ok-lay_changes.ensures

pub returns : goal.returns
returns c =
    node_lays_more c.in_ok-at.ensures _ _ c.lay_expression.new.nodes.items c.lay_changes.new.nodes.items
    c.close_node.new.nodes.items c.in_ok-lay_expression.ensures c.in_ok-lay_changes.ensures c.close_node.ensures
