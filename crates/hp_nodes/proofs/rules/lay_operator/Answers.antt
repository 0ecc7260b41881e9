use Rattle.std.proofs.Common.{ap}
use Rattle.hp_nodes.specs.Trees.{OperatorOf}
use Rattle.hp_nodes.proofs.LayingLemmas.{open_within_more, node_lays_more}
use Rattle.hp_nodes.proofs.LayingSteps.{opened_of_equal}
use Rattle.hp_nodes.proofs.rules.lay_operator.Goals as goal

pub close_node-requires : goal.close_node-requires
close_node-requires c =
    open_within_more c.in_ok-at.ensures _ _ c.lay_precondition.new.nodes.items c.lay_effects_and_cost.new.nodes.items
    c.in_ok-lay_precondition.ensures c.in_ok-lay_effects_and_cost.ensures

pub returns : goal.returns
returns c =
    node_lays_more (opened_of_equal (ap OperatorOf c.in_ok-copy.ensures.same) c.in_ok-at.ensures) _ _
    c.lay_precondition.new.nodes.items c.lay_effects_and_cost.new.nodes.items c.close_node.new.nodes.items
    c.in_ok-lay_precondition.ensures c.in_ok-lay_effects_and_cost.ensures c.close_node.ensures
