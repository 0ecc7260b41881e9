use Rattle.std.proofs.Common.{◌≡◌, ◌++◌, drop}
use Rattle.hp_doctor_tree.specs.Words.{escaped}
use Rattle.hp_doctor_tree.proofs.words.push_escaped.Given as goal

abbrev pub invariant-loop-byte : goal.invariant-loop-byte
invariant-loop-byte l = l.out.items ++ escaped (drop l.byte-index l.bytes) ≡ l.fn.out.items ++ escaped l.bytes
