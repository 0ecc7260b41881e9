use Rattle.std.proofs.Common.{ap, map}
use Rattle.hp_syntax.specs.Views.{branch_of}
use Rattle.hp_nodes.specs.Compiled.{branch_trees}
use Rattle.hp_nodes.specs.Trees.{MethodOf}
use Rattle.hp_nodes.proofs.LayingLemmas.{open_within, node_lays}
use Rattle.hp_nodes.proofs.LayingSteps.{opened_of_equal}
use Rattle.hp_nodes.proofs.rules.lay_method.Goals as goal

pub close_node-requires : goal.close_node-requires
close_node-requires c = open_within c.in_ok-at.ensures _ c.lay_branches.new.nodes.items c.in_ok-lay_branches.ensures

pub returns : goal.returns
returns c =
    let m = c.args.method.now in
    node_lays (opened_of_equal (ap MethodOf c.in_ok-copy.ensures.same) c.in_ok-at.ensures)
    (branch_trees m.span (map branch_of m.branches.items)) c.lay_branches.new.nodes.items c.close_node.new.nodes.items
    (rw c.as_slice.ensures.value at c.in_ok-lay_branches.ensures) c.close_node.ensures
