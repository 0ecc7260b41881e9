use Rattle.std.proofs.Common.{◌≡◌, ◌++◌, drop, map}
use Rattle.std.specs.List.{flat_map}
use Rattle.hp_syntax.specs.GroundViews.{ground_of}
use Rattle.hp_obstacles.specs.Obstacles.{obstacle_of}
use Rattle.hp_doctor_trace.specs.Failing.{failing_by, failing_of}
use Rattle.hp_doctor_trace.proofs.stuck.add_obstacles.Given as goal

abbrev pub invariant-loop-obstacle : goal.invariant-loop-obstacle
invariant-loop-obstacle l =
    let failing = failing_by (ground_of l.task) in
    map failing_of l.failing.items ++ flat_map failing (map obstacle_of (drop l.obstacle-index l.obstacles))
    ≡ map failing_of l.fn.failing.items ++ flat_map failing (map obstacle_of l.obstacles)
