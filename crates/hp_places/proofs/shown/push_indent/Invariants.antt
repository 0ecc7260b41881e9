use Rattle.std.proofs.Common.{◌≡◌, ◌++◌, take}
use Rattle.hp_places.specs.Shown.{indent}
use Rattle.hp_places.proofs.shown.push_indent.Given as goal

abbrev pub invariant-loop-byte : goal.invariant-loop-byte
invariant-loop-byte l = l.out.items ≡ l.fn.out.items ++ indent (take l.byte-index l.bytes)
