use Rattle.std.proofs.Common.{◌≡◌, ◌++◌, drop, map}
use Rattle.std.specs.List.{flat_map}
use Rattle.hp_lint.specs.Asking.{on_asked}
use Rattle.hp_lint.specs.LintViews.{accepts_atom, accepts_name, lent_atoms, remark_of}
use Rattle.hp_lint.proofs.asking.tell_atoms.Given as goal

abbrev pub invariant-loop-atom : goal.invariant-loop-atom
invariant-loop-atom l =
    map remark_of l.report.list.items ++ flat_map (on_asked (accepts_atom l.given) (accepts_name l.given)) (lent_atoms (drop l.atom-index l.asked))
    ≡ map remark_of l.fn.report.list.items ++ flat_map (on_asked (accepts_atom l.given) (accepts_name l.given)) (lent_atoms l.asked)
