use Rattle.std.proofs.Common.{◌≡◌, drop}
use Rattle.hp_words.specs.PathWords.{piece_end}
use Rattle.hp_words.proofs.paths.piece_end.Given as goal

abbrev pub invariant-loop-byte : goal.invariant-loop-byte
invariant-loop-byte l = record {
  at : l.end ≡ l.byte-index;
  left : piece_end l.end (drop l.byte-index l.bytes) ≡ piece_end 0 l.bytes;
}
