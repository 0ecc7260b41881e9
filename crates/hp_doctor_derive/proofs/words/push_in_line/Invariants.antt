use Rattle.std.proofs.Common.{◌≡◌, ◌++◌, drop, map}
use Rattle.hp_obstacles.specs.Obstacles.{stuck_of}
use Rattle.hp_doctor_derive.specs.Said.{in_line}
use Rattle.hp_doctor_derive.proofs.words.push_in_line.Given as goal

abbrev pub invariant-loop-stuck : goal.invariant-loop-stuck
invariant-loop-stuck l =
    l.out.items ++ in_line (map stuck_of (drop l.stuck-index l.tasks))
    ≡ l.fn.out.items ++ in_line (map stuck_of l.tasks)
