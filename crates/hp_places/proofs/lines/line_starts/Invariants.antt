use Rattle.std.proofs.Common.{◌≡◌, ◌++◌, drop}
use Rattle.hp_places.specs.Starts.{line_starts, starts_from}
use Rattle.hp_places.proofs.lines.line_starts.Given as goal

abbrev pub invariant-loop-i : goal.invariant-loop-i
invariant-loop-i l = l.starts.items ++ starts_from l.i (drop l.i l.text) ≡ line_starts l.text
