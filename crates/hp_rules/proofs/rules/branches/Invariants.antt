use Rattle.std.proofs.Common.{◌≡◌, true, length, map}
use Rattle.hp_syntax.specs.Grammar as grammar
use Rattle.hp_syntax.specs.Views.{branch_of}
use Rattle.hp_text.specs.Nodes.{nodes_of}
use Rattle.hp_terms.proofs.Turns.{prepend}
use Rattle.hp_rules.proofs.rules.branches.Given as goal

-- the branches so far and those from here on are the branches of all nodes
abbrev pub invariant-loop-branches : goal.invariant-loop-branches
invariant-loop-branches l =
    grammar.branches l.end true (nodes_of l.nodes) l.initial.scope.names.keys
    ≡ prepend (map branch_of l.branches.items) (grammar.branches l.end true (nodes_of l.rest) l.scope.names.keys)

abbrev pub decreases-loop-branches : goal.decreases-loop-branches
decreases-loop-branches l = length l.rest
