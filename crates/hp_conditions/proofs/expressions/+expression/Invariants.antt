use Rattle.std.proofs.Common.{◌≡◌, ◌+◌, ◌*◌, map}
use Rattle.hp_syntax.specs.Steps as steps
use Rattle.hp_syntax.specs.Grammar as grammar
use Rattle.hp_syntax.specs.Views.{expression_of}
use Rattle.hp_text.specs.Nodes.{node_of, nodes_of}
use Rattle.hp_terms.proofs.Turns.{prepend, from_here}
use Rattle.hp_terms.proofs.Sizes.{node_size, forest_size}
use Rattle.hp_conditions.proofs.expressions.+expression.Given as goal

abbrev pub decreases-expression : goal.decreases-expression
decreases-expression l = 5 * node_size (node_of l.node.now)

abbrev pub decreases-list_expression : goal.decreases-list_expression
decreases-list_expression l = 5 * forest_size (nodes_of l.nodes.now) + 3

abbrev pub decreases-list_kind : goal.decreases-list_kind
decreases-list_kind l = 5 * forest_size (nodes_of l.nodes.now) + 2

abbrev pub decreases-conjunction : goal.decreases-conjunction
decreases-conjunction l = 5 * forest_size (nodes_of l.nodes.now) + 1

abbrev pub decreases-keyed : goal.decreases-keyed
decreases-keyed l = 5 * forest_size (nodes_of l.rest.now) + 2

abbrev pub decreases-expressions : goal.decreases-expressions
decreases-expressions l = 5 * forest_size (nodes_of l.nodes.now)

abbrev pub decreases-one_expression : goal.decreases-one_expression
decreases-one_expression l = 5 * forest_size (nodes_of l.nodes.now)

abbrev pub decreases-two_expressions : goal.decreases-two_expressions
decreases-two_expressions l = 5 * forest_size (nodes_of l.nodes.now)

abbrev pub decreases-implied : goal.decreases-implied
decreases-implied l = 5 * forest_size (nodes_of l.rest.now) + 1

abbrev pub decreases-quantified : goal.decreases-quantified
decreases-quantified l = 5 * forest_size (nodes_of l.rest.now) + 1

abbrev pub invariant-expressions-loop-node : goal.invariant-expressions-loop-node
invariant-expressions-loop-node l =
    steps.each grammar.expression (nodes_of l.nodes) l.initial.scope.names.keys
    ≡ prepend (map expression_of l.expressions.items) (from_here grammar.expression l.nodes l.node-index
    l.scope.names.keys)
