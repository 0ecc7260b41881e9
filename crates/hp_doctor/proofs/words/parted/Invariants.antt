use Rattle.std.proofs.Common.{◌≡◌, ◌++◌, take, drop}
use Rattle.hp_doctor.specs.Words.{before, behind}
use Rattle.hp_doctor.proofs.words.parted.Given as goal

abbrev pub invariant-loop-i : goal.invariant-loop-i
invariant-loop-i l = record {
  before : before l.mark l.bytes ≡ take l.i l.bytes ++ before l.mark (drop l.i l.bytes);
  behind : behind l.mark l.bytes ≡ behind l.mark (drop l.i l.bytes);
}
