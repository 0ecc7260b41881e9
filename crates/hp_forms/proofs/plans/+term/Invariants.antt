use Rattle.std.proofs.Common.{◌+◌, ◌*◌, ◌≤◌, length}
use Rattle.hp_text.specs.Nodes.{node_of, nodes_of}
use Rattle.hp_terms.proofs.Sizes.{node_size, forest_size}
use Rattle.hp_forms.specs.PlanForms as plans
use Rattle.hp_forms.proofs.PlanSteps.{SoFar}
use Rattle.hp_forms.proofs.plans.+term.Given as goal

abbrev pub decreases-term : goal.decreases-term
decreases-term l = 2 * node_size (node_of l.node.now)

abbrev pub decreases-list_term : goal.decreases-list_term
decreases-list_term l = 2 * forest_size (nodes_of l.nodes.now) + 1

abbrev pub decreases-items : goal.decreases-items
decreases-items l = 2 * forest_size (nodes_of l.nodes.now)

abbrev pub decreases-dotted : goal.decreases-dotted
decreases-dotted l = 2 * forest_size (nodes_of l.nodes.now)

abbrev pub decreases-tail : goal.decreases-tail
decreases-tail l = 2 * node_size (node_of l.node.now)

abbrev pub decreases-list_tail : goal.decreases-list_tail
decreases-list_tail l = 2 * forest_size (nodes_of l.nodes.now)

-- the parts so far and those from here on are the parts of all nodes
abbrev pub invariant-items-loop-first : goal.invariant-items-loop-first
invariant-items-loop-first l =
    record {
      read : SoFar (plans.items l.end (nodes_of l.nodes)) (plans.items l.end (nodes_of l.rest))
          l.initial.parts.items l.parts.items;
      smaller : forest_size (nodes_of l.rest) ≤ forest_size (nodes_of l.nodes);
    }

abbrev pub decreases-items-loop-first : goal.decreases-items-loop-first
decreases-items-loop-first l = length l.rest
