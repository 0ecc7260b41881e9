use Rattle.std.proofs.Common.{◌≡◌, ◌++◌, drop, map}
use Rattle.hp_syntax.specs.Views.{atom_of}
use Rattle.hp_lint.specs.Variables.{atoms_uses}
use Rattle.hp_lint.proofs.uses.Uses.atoms.Given as goal

abbrev pub invariant-loop-atom : goal.invariant-loop-atom
invariant-loop-atom l =
    l.self.list.items ++ atoms_uses (map atom_of (drop l.atom-index l.atoms)) ≡ l.fn.self.list.items ++ atoms_uses (map atom_of l.atoms)
