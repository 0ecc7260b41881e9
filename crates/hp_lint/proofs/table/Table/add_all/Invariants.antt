use Rattle.std.proofs.Common.{take}
use Rattle.hp_lint.specs.LintViews.{lent_atoms, Learns}
use Rattle.hp_lint.proofs.table.Table.add_all.Given as goal

abbrev pub invariant-loop-atom : goal.invariant-loop-atom
invariant-loop-atom l = Learns (lent_atoms (take l.atom-index l.atoms)) l.fn.self l.self
