use Rattle.std.proofs.Common.{◌≡◌, ◌++◌, drop, map}
use Rattle.std.specs.List.{flat_map}
use Rattle.hp_syntax.specs.GroundViews.{ground_of}
use Rattle.hp_syntax.specs.Views.{domain_of}
use Rattle.hp_doctor.specs.Texts.{texts_of}
use Rattle.hp_obstacles.specs.Obstacles.{obstacle_of}
use Rattle.hp_doctor_derive.specs.Said.{way_text}
use Rattle.hp_doctor_derive.proofs.words.push_each_way.Given as goal

abbrev pub invariant-loop-obstacle : goal.invariant-loop-obstacle
invariant-loop-obstacle l =
    let text = way_text (texts_of l.files) (domain_of l.domain) (ground_of l.task) in
    l.out.items ++ flat_map text (map obstacle_of (drop l.obstacle-index l.obstacles))
    ≡ l.fn.out.items ++ flat_map text (map obstacle_of l.obstacles)
