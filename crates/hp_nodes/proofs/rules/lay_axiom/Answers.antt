use Rattle.std.proofs.Common.{ap, map}
use Rattle.hp_syntax.specs.Views.{clause_of}
use Rattle.hp_nodes.specs.Compiled.{clause_trees}
use Rattle.hp_nodes.specs.Trees.{AxiomOf}
use Rattle.hp_nodes.proofs.LayingLemmas.{open_within, node_lays}
use Rattle.hp_nodes.proofs.LayingSteps.{opened_of_equal}
use Rattle.hp_nodes.proofs.rules.lay_axiom.Goals as goal

pub close_node-requires : goal.close_node-requires
close_node-requires c = open_within c.in_ok-at.ensures _ c.lay_clauses.new.nodes.items c.in_ok-lay_clauses.ensures

pub returns : goal.returns
returns c =
    let x = c.args.rule.now in
    node_lays (opened_of_equal (ap AxiomOf c.in_ok-copy.ensures.same) c.in_ok-at.ensures)
    (clause_trees x.span (map clause_of x.clauses.items)) c.lay_clauses.new.nodes.items c.close_node.new.nodes.items
    (rw c.as_slice.ensures.value at c.in_ok-lay_clauses.ensures) c.close_node.ensures
