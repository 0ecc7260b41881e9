use Rattle.std.proofs.Common.{◌≡◌, ◌++◌, drop}
use Rattle.hp_lint.specs.Variables.{atoms_uses}
use Rattle.hp_lint.specs.LintViews.{lent_atoms}
use Rattle.hp_lint.proofs.uses.Uses.lent.Given as goal

abbrev pub invariant-loop-atom : goal.invariant-loop-atom
invariant-loop-atom l =
    l.self.list.items ++ atoms_uses (lent_atoms (drop l.atom-index l.atoms)) ≡ l.fn.self.list.items ++ atoms_uses (lent_atoms l.atoms)
