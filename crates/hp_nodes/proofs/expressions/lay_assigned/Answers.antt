use Rattle.std.proofs.Common.{ap}
use Rattle.hp_nodes.specs.Trees.{NoTree, Assign}
use Rattle.hp_nodes.proofs.LayingSteps.{node_of_equal}
use Rattle.hp_nodes.proofs.expressions.lay_assigned.Goals as goal

pub returns : goal.returns
returns c =
    node_of_equal c.leaf.result c.args.span NoTree c.args.nodes.now.items c.leaf.new.nodes.items
    (ap (Assign c.args.v) c.in_ok-copy.ensures.same) c.leaf.ensures
