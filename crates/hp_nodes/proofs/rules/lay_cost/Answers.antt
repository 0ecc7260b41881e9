use Rattle.std.proofs.Common.{ap}
use Rattle.hp_syntax.specs.ViewLaws.{pattern_span-of}
use Rattle.hp_nodes.specs.Trees.{NoTree, CostOf}
use Rattle.hp_nodes.proofs.LayingSteps.{node_of_equal}
use Rattle.hp_nodes.proofs.rules.lay_cost.Goals as goal

pub returns : goal.returns
returns c =
    rw (pattern_span-of c.args.cost.now)
    (node_of_equal c.leaf.result c.args.cost.now.span NoTree c.args.nodes.now.items c.leaf.new.nodes.items
    (ap CostOf c.in_ok-copy.ensures.same) c.leaf.ensures)
