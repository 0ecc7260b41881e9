use Rattle.std.proofs.Common.{refl}
use Rattle.hp_syntax.specs.Views.{atom_of, atoms_of}
use Rattle.hp_nodes.specs.Compiled.{leaf, change_op, change_trees}
use Rattle.hp_nodes.proofs.LayingSteps.{laid_one_more, all_parts_laid}
use Rattle.hp_nodes.proofs.effects.lay_changes.Goals as goal

pub loop-atom-preserved : goal.loop-atom-preserved
loop-atom-preserved c =
    let side = c.args.side in
    laid_one_more (λ as'. change_trees side (atoms_of as')) (λ a. leaf (change_op side (atom_of a)) a.span)
    c.args.atoms.now c.loop-atom.atom-index c.atom-item.result c.loop-atom.nodes.items c.lay_change.new.nodes.items
    (λ a as'. refl) c.loop-atom-test.true c.atom-item.is c.in_ok-lay_change.ensures _ c.loop-atom.invariant

pub returns : goal.returns
returns c =
    all_parts_laid (λ as'. change_trees c.args.side (atoms_of as')) c.args.atoms.now c.loop-atom.atom-index
    c.loop-atom-test.false refl c.loop-atom.nodes.items _ c.loop-atom.invariant
