use Rattle.std.proofs.Common.{◌≡◌, ◌++◌, drop, map}
use Rattle.hp_syntax.specs.Views.{atom_of}
use Rattle.hp_lint.specs.LintViews.{lent_atoms}
use Rattle.hp_lint.proofs.asking.all_of.Given as goal

abbrev pub invariant-loop-atom : goal.invariant-loop-atom
invariant-loop-atom l =
    lent_atoms l.list.items ++ map atom_of (drop l.atom-index l.atoms) ≡ lent_atoms l.fn.list.items ++ map atom_of l.atoms
