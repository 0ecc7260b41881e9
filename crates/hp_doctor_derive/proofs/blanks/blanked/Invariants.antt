use Rattle.std.proofs.Common.{◌≡◌, ◌++◌, drop}
use Rattle.hp_doctor_derive.specs.Blanked.{blanked, blanked_in}
use Rattle.hp_doctor_derive.proofs.blanks.blanked.Given as goal

abbrev pub invariant-loop-i : goal.invariant-loop-i
invariant-loop-i l = l.out.items ++ blanked_in l.line (drop l.i l.text) ≡ blanked l.text
