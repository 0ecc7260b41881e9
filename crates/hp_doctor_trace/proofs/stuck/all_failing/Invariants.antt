use Rattle.std.proofs.Common.{◌≡◌, ◌++◌, drop, map}
use Rattle.std.specs.List.{flat_map}
use Rattle.hp_obstacles.specs.Obstacles.{stuck_of}
use Rattle.hp_doctor_trace.specs.Failing.{failing_at, failing_of}
use Rattle.hp_doctor_trace.proofs.stuck.all_failing.Given as goal

abbrev pub invariant-loop-one : goal.invariant-loop-one
invariant-loop-one l =
    map failing_of l.failing.items ++ flat_map failing_at (map stuck_of (drop l.one-index l.stuck))
    ≡ flat_map failing_at (map stuck_of l.stuck)
