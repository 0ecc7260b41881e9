use Rattle.std.proofs.Common.{◌≡◌, ◌++◌, drop}
use Rattle.hp_syntax.specs.Views.{atoms_of}
use Rattle.hp_syntax.specs.Written as written
use Rattle.hp_syntax.specs.Written.{rest_text}
use Rattle.hp_print.proofs.terms.push_more_atoms.Given as goal

abbrev pub invariant-loop-atom : goal.invariant-loop-atom
invariant-loop-atom l =
    l.text.items ++ rest_text (written.atoms l.vars (atoms_of (drop l.atom-index l.atoms)))
    ≡ l.fn.text.items ++ rest_text (written.atoms l.vars (atoms_of l.atoms))
