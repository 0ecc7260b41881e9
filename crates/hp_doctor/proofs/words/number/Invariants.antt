use Rattle.std.proofs.Common.{◌≡◌, ◌≤◌, drop}
use Rattle.hp_doctor.specs.Words.{number_from, number_of}
use Rattle.hp_doctor.proofs.words.number.Given as goal

abbrev pub invariant-loop-byte : goal.invariant-loop-byte
invariant-loop-byte l = record {
  left : number_from l.most l.number (drop l.byte-index l.word) ≡ number_of l.most l.word;
  small : l.number ≤ l.most;
}
