use Rattle.std.proofs.Common.{◌≡◌, true, map}
use Rattle.std.specs.Vec.Iter.{into_iter_items, into_iter_len}
use Rattle.hp_syntax.specs.Grammar as grammar
use Rattle.hp_syntax.specs.Views.{pair_of}
use Rattle.hp_text.specs.Nodes.{nodes_of}
use Rattle.hp_terms.proofs.Turns.{prepend}
use Rattle.hp_forms.proofs.files.pairs.Given as goal

-- the pairs so far and those from here on are the pairs of all nodes
abbrev pub invariant-loop-left : goal.invariant-loop-left
invariant-loop-left l =
    grammar.pairs l.end true (nodes_of l.fn.nodes.items) l.initial.scope.names.keys
    ≡ prepend (map pair_of l.pairs.items)
    (grammar.pairs l.end true (nodes_of (into_iter_items l.left)) l.scope.names.keys)

abbrev pub decreases-loop-left : goal.decreases-loop-left
decreases-loop-left l = into_iter_len l.left
