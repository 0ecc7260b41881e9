use Rattle.std.proofs.Common.{◌≡◌, ◌≤◌, false, drop}
use Rattle.hp_doctor.specs.Mending.{mend_from}
use Rattle.hp_doctor.proofs.mending.mend_of.Given as goal

abbrev pub invariant-loop-i : goal.invariant-loop-i
invariant-loop-i l = record {
  mend : mend_from l.depth l.in_comment l.i (drop l.i l.text) ≡ mend_from 0 false 0 l.text;
  depth : l.depth ≤ l.i;
}
