use Rattle.std.proofs.Common.{◌≡◌, ◌++◌, drop, map}
use Rattle.hp_syntax.specs.GroundViews.{ground_of}
use Rattle.hp_doctor_tree.specs.Drawings.{change_lines}
use Rattle.hp_doctor_tree.proofs.changes.push_changes.Given as goal

abbrev pub invariant-loop-term : goal.invariant-loop-term
invariant-loop-term l =
    l.out.items ++ change_lines l.level l.mark (map ground_of (drop l.term-index l.terms))
    ≡ l.fn.out.items ++ change_lines l.level l.mark (map ground_of l.terms)
