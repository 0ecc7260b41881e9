use Rattle.std.proofs.Common.{◌≡◌, ◌+◌, ◌*◌, ◌≤◌, length, map}
use Rattle.hp_syntax.specs.Steps as steps
use Rattle.hp_syntax.specs.Grammar as grammar
use Rattle.hp_syntax.specs.Views.{pattern_of}
use Rattle.hp_text.specs.Nodes.{node_of, nodes_of}
use Rattle.hp_terms.specs.FormReads.{setting_of}
use Rattle.hp_terms.proofs.Turns.{prepend, from_here}
use Rattle.hp_terms.proofs.ItemSteps.{SoFar}
use Rattle.hp_terms.proofs.Sizes.{node_size, forest_size}
use Rattle.hp_terms.proofs.terms.+term.Given as goal

abbrev pub decreases-term : goal.decreases-term
decreases-term l = 2 * node_size (node_of l.node.now)

abbrev pub decreases-list_term : goal.decreases-list_term
decreases-list_term l = 2 * forest_size (nodes_of l.nodes.now) + 1

abbrev pub decreases-items : goal.decreases-items
decreases-items l = 2 * forest_size (nodes_of l.nodes.now)

abbrev pub decreases-dotted : goal.decreases-dotted
decreases-dotted l = 2 * forest_size (nodes_of l.nodes.now)

abbrev pub decreases-tail : goal.decreases-tail
decreases-tail l = 2 * node_size (node_of l.node.now)

abbrev pub decreases-list_tail : goal.decreases-list_tail
decreases-list_tail l = 2 * forest_size (nodes_of l.nodes.now)

abbrev pub decreases-called : goal.decreases-called
decreases-called l = 2 * forest_size (nodes_of l.nodes.now) + 1

abbrev pub decreases-call : goal.decreases-call
decreases-call l = 2 * forest_size (nodes_of l.nodes.now)

abbrev pub decreases-terms : goal.decreases-terms
decreases-terms l = 2 * forest_size (nodes_of l.nodes.now)

-- the parts so far and those from here on are the parts of all nodes
abbrev pub invariant-items-loop-first : goal.invariant-items-loop-first
invariant-items-loop-first l =
    let items = grammar.items (setting_of l.setting) l.end in
    record {
      read : SoFar (items (nodes_of l.nodes)) (items (nodes_of l.rest))
          l.initial.parts.items l.parts.items l.initial.scope.names.keys l.scope.names.keys;
      smaller : forest_size (nodes_of l.rest) ≤ forest_size (nodes_of l.nodes);
    }

abbrev pub decreases-items-loop-first : goal.decreases-items-loop-first
decreases-items-loop-first l = length l.rest

abbrev pub invariant-terms-loop-node : goal.invariant-terms-loop-node
invariant-terms-loop-node l =
    let item = grammar.term grammar.InRule in
    steps.each item (nodes_of l.nodes) l.initial.scope.names.keys
    ≡ prepend (map pattern_of l.terms.items) (from_here item l.nodes l.node-index l.scope.names.keys)
