use Rattle.std.proofs.Common.{◌≡◌, true, length, map}
use Rattle.hp_syntax.specs.Grammar as grammar
use Rattle.hp_syntax.specs.Views.{clause_of}
use Rattle.hp_text.specs.Nodes.{nodes_of}
use Rattle.hp_terms.proofs.Turns.{prepend}
use Rattle.hp_rules.proofs.rules.clauses.Given as goal

-- the branches so far and those from here on are the branches of all nodes
abbrev pub invariant-loop-clauses : goal.invariant-loop-clauses
invariant-loop-clauses l =
    grammar.clauses l.end true (nodes_of l.nodes) l.initial.scope.names.keys
    ≡ prepend (map clause_of l.clauses.items) (grammar.clauses l.end true (nodes_of l.rest) l.scope.names.keys)

abbrev pub decreases-loop-clauses : goal.decreases-loop-clauses
decreases-loop-clauses l = length l.rest
