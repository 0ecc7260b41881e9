use Rattle.std.proofs.Common.{◌≡◌, ◌++◌, drop, map}
use Rattle.std.specs.List.{flat_map}
use Rattle.hp_syntax.specs.GroundViews.{ground_of}
use Rattle.hp_syntax.specs.Views.{domain_of}
use Rattle.hp_doctor.specs.Texts.{texts_of}
use Rattle.hp_obstacles.specs.Obstacles.{obstacle_of}
use Rattle.hp_doctor_why.specs.Said.{obstacle_text}
use Rattle.hp_doctor_why.proofs.tasks.push_each.Given as goal

abbrev pub invariant-loop-obstacle : goal.invariant-loop-obstacle
invariant-loop-obstacle l =
    let text = obstacle_text (texts_of l.files) (domain_of l.domain) (ground_of l.task)
    (map ground_of l.guards) in
    l.out.items ++ flat_map text (map obstacle_of (drop l.obstacle-index l.obstacles))
    ≡ l.fn.out.items ++ flat_map text (map obstacle_of l.obstacles)
