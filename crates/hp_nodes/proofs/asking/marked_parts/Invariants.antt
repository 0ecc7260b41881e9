use Rattle.std.proofs.Common.{◌≡◌}
use Rattle.std.specs.List.{filter, range_with_len}
use Rattle.hp_nodes.specs.Marks.{marked}
use Rattle.hp_nodes.proofs.asking.marked_parts.Given as goal

abbrev pub invariant-loop-part : goal.invariant-loop-part
invariant-loop-part l = l.parts.items ≡ filter (marked l.marks) (range_with_len 0 l.part)
