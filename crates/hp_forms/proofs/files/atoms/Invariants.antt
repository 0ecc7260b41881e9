use Rattle.std.proofs.Common.{◌≡◌, map}
use Rattle.std.specs.Vec.Iter.{into_iter_items}
use Rattle.hp_syntax.specs.Steps as steps
use Rattle.hp_syntax.specs.Grammar as grammar
use Rattle.hp_syntax.specs.Views.{atom_of}
use Rattle.hp_text.specs.Nodes.{nodes_of}
use Rattle.hp_terms.proofs.Turns.{prepend}
use Rattle.hp_forms.proofs.files.atoms.Given as goal

abbrev pub invariant-loop-node : goal.invariant-loop-node
invariant-loop-node l =
    let item = grammar.atom grammar.InProblem in
    steps.each item (nodes_of l.fn.nodes.items) l.initial.scope.names.keys
    ≡ prepend (map atom_of l.atoms.items)
    (steps.each item (nodes_of (into_iter_items l.node-iterator)) l.scope.names.keys)
