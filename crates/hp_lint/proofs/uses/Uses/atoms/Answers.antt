use Rattle.std.proofs.Common.{map, true, refl}
use Rattle.hp_syntax.specs.Views.{atom_of}
use Rattle.hp_syntax.proofs.ListLemmas.{made_on}
use Rattle.hp_lint.specs.Variables.{atom_uses, atoms_uses}
use Rattle.hp_lint.proofs.uses.Uses.atoms.Goals as goal

pub loop-atom-preserved : goal.loop-atom-preserved
loop-atom-preserved c =
    made_on (λ ys. atoms_uses (map atom_of ys)) (λ y. atom_uses true (atom_of y)) c.args.atoms.now c.loop-atom.atom-index c.atom-item.result
    _ _ _ (λ y ys. refl) c.loop-atom-test.true c.atom-item.is c.loop-atom.invariant c.in_ok-atom.ensures
