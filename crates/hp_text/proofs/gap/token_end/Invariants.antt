use Rattle.std.proofs.Common.{length, ◌≡◌, ◌+◌, ◌<◌, ◌≤◌, ℕ, false}
use Rattle.hp_syntax.specs.Text.{NameByte, in_comment, kind_at}
use Rattle.hp_text.proofs.gap.token_end.Given as goal

abbrev pub invariant-loop-byte : goal.invariant-loop-byte
invariant-loop-byte l = record {
  some : l.end ≡ l.from + 1 + l.byte-index;
  within : l.end ≤ length l.bytes;
  run : (i : ℕ) → l.from ≤ i → i < l.end → kind_at l.bytes i ≡ NameByte;
  quiet : in_comment l.bytes l.end ≡ false;
}
