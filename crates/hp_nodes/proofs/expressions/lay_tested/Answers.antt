use Rattle.std.proofs.Common.{ap}
use Rattle.hp_nodes.specs.Trees.{NoTree, Test}
use Rattle.hp_nodes.proofs.LayingSteps.{node_of_equal}
use Rattle.hp_nodes.proofs.expressions.lay_tested.Goals as goal

pub returns : goal.returns
returns c =
    node_of_equal c.leaf.result c.args.span NoTree c.args.nodes.now.items c.leaf.new.nodes.items
    (ap Test c.in_ok-copy.ensures.same) c.leaf.ensures
