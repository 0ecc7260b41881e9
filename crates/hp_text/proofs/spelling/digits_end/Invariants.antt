use Rattle.std.proofs.Common.{◌≡◌, true, take}
use Rattle.std.specs.List.{list_all}
use Rattle.hp_syntax.specs.Text.{is_digit}
use Rattle.hp_text.proofs.spelling.digits_end.Given as goal

-- so far all are digits
abbrev pub invariant-loop-i : goal.invariant-loop-i
invariant-loop-i l = list_all is_digit (take l.i l.bytes) ≡ true
