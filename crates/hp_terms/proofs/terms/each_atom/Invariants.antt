use Rattle.std.proofs.Common.{◌≡◌, map}
use Rattle.hp_syntax.specs.Steps as steps
use Rattle.hp_syntax.specs.Grammar as grammar
use Rattle.hp_syntax.specs.Views.{atom_of}
use Rattle.hp_text.specs.Nodes.{nodes_of}
use Rattle.hp_terms.specs.FormReads.{setting_of}
use Rattle.hp_terms.proofs.Turns.{prepend, from_here}
use Rattle.hp_terms.proofs.terms.each_atom.Given as goal

abbrev pub invariant-loop-node : goal.invariant-loop-node
invariant-loop-node l =
    let item = grammar.atom (setting_of l.setting) in
    steps.each item (nodes_of l.nodes) l.initial.scope.names.keys
    ≡ prepend (map atom_of l.atoms.items) (from_here item l.nodes l.node-index l.scope.names.keys)
