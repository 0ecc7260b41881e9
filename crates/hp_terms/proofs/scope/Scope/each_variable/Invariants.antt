use Rattle.std.proofs.Common.{◌≡◌}
use Rattle.hp_syntax.specs.Steps as steps
use Rattle.hp_syntax.specs.Grammar as grammar
use Rattle.hp_text.specs.Nodes.{nodes_of}
use Rattle.hp_terms.proofs.Turns.{prepend, from_here}
use Rattle.hp_terms.proofs.scope.Scope.each_variable.Given as goal

-- the items so far and those from here on are the items of all nodes
abbrev pub invariant-loop-node : goal.invariant-loop-node
invariant-loop-node l =
    steps.each grammar.variable (nodes_of l.nodes) l.initial.self.names.keys
    ≡ prepend l.variables.items (from_here grammar.variable l.nodes l.node-index l.self.names.keys)
