use Rattle.hp_nodes.specs.Trees.{NoTree}
use Rattle.hp_nodes.proofs.LayingSteps.{node_of_equal}
use Rattle.hp_nodes.proofs.effects.lay_change.Goals as goal

pub returns : goal.returns
returns c =
    node_of_equal c.leaf.result c.args.atom.now.span NoTree c.args.nodes.now.items c.leaf.new.nodes.items
    c.in_ok-op.ensures c.leaf.ensures
