use Rattle.std.proofs.Common.{map, refl}
use Rattle.std.specs.List.{flat_map}
use Rattle.hp_syntax.proofs.ListLemmas.{made_on}
use Rattle.hp_syntax.specs.GroundViews.{ground_of}
use Rattle.hp_obstacles.specs.Obstacles.{obstacle_of}
use Rattle.hp_doctor_trace.specs.Failing.{failing_by}
use Rattle.hp_doctor_trace.proofs.stuck.add_obstacles.Goals as goal

pub loop-obstacle-preserved : goal.loop-obstacle-preserved
loop-obstacle-preserved c =
    let failing = failing_by (ground_of c.args.task.now) in
    made_on (λ ys. flat_map failing (map obstacle_of ys)) (λ y. failing (obstacle_of y)) c.args.obstacles.now
    c.loop-obstacle.obstacle-index c.obstacle-item.result _ _ _ (λ y ys. refl) c.loop-obstacle-test.true c.obstacle-item.is
    c.loop-obstacle.invariant c.in_ok-add_obstacle.ensures
