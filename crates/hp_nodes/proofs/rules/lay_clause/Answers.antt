use Rattle.hp_syntax.specs.Views.{expression_of}
use Rattle.hp_nodes.specs.Compiled.{only, expression_tree}
use Rattle.hp_nodes.proofs.LayingSteps.{node_of_equal}
use Rattle.hp_nodes.proofs.rules.lay_clause.Goals as goal

pub returns : goal.returns
returns c =
    node_of_equal c.lay_part.result c.args.span (only (expression_tree (expression_of c.args.clause.now.body)))
    c.args.nodes.now.items c.lay_part.new.nodes.items c.in_ok-op.ensures c.lay_part.ensures
