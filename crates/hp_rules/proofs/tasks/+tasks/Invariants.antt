use Rattle.std.proofs.Common.{◌≡◌, ◌+◌, ◌*◌, map}
use Rattle.hp_syntax.specs.Steps as steps
use Rattle.hp_syntax.specs.Grammar as grammar
use Rattle.hp_syntax.specs.Views.{tasks_of}
use Rattle.hp_text.specs.Nodes.{node_of, nodes_of}
use Rattle.hp_terms.specs.FormReads.{setting_of}
use Rattle.hp_terms.proofs.Turns.{prepend, from_here}
use Rattle.hp_terms.proofs.Sizes.{node_size, forest_size}
use Rattle.hp_rules.proofs.tasks.+tasks.Given as goal

abbrev pub decreases-tasks : goal.decreases-tasks
decreases-tasks l = 3 * node_size (node_of l.node.now)

abbrev pub decreases-list_tasks : goal.decreases-list_tasks
decreases-list_tasks l = 3 * forest_size (nodes_of l.nodes.now) + 2

abbrev pub decreases-ordered : goal.decreases-ordered
decreases-ordered l = 3 * forest_size (nodes_of l.nodes.now) + 1

abbrev pub decreases-keyed : goal.decreases-keyed
decreases-keyed l = 3 * forest_size (nodes_of l.rest.now) + 2

abbrev pub decreases-task_list : goal.decreases-task_list
decreases-task_list l = 3 * forest_size (nodes_of l.nodes.now)

abbrev pub invariant-task_list-loop-node : goal.invariant-task_list-loop-node
invariant-task_list-loop-node l =
    let item = grammar.tasks (setting_of l.setting) in
    steps.each item (nodes_of l.nodes) l.initial.scope.names.keys
    ≡ prepend (map tasks_of l.parts.items) (from_here item l.nodes l.node-index l.scope.names.keys)
