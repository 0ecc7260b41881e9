use Rattle.std.proofs.Common.{◌≡◌, drop}
use Rattle.hp_syntax.specs.Views.{atoms_of}
use Rattle.hp_nodes.specs.Compiled.{change_trees}
use Rattle.hp_nodes.proofs.LayingLemmas.{laid_behind}
use Rattle.hp_nodes.proofs.effects.lay_changes.Given as goal

abbrev pub invariant-loop-atom : goal.invariant-loop-atom
invariant-loop-atom l =
    laid_behind l.nodes.items (change_trees l.side (atoms_of (drop l.atom-index l.atoms)))
    ≡ laid_behind l.fn.nodes.items (change_trees l.side (atoms_of l.atoms))
