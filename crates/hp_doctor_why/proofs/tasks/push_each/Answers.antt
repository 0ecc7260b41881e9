use Rattle.std.proofs.Common.{refl, map}
use Rattle.std.specs.List.{flat_map}
use Rattle.hp_syntax.proofs.ListLemmas.{made_on}
use Rattle.hp_syntax.specs.GroundViews.{ground_of}
use Rattle.hp_syntax.specs.Views.{domain_of}
use Rattle.hp_doctor.specs.Texts.{texts_of}
use Rattle.hp_obstacles.specs.Obstacles.{obstacle_of}
use Rattle.hp_doctor_why.specs.Said.{obstacle_text}
use Rattle.hp_doctor_why.proofs.tasks.push_each.Goals as goal

pub loop-obstacle-preserved : goal.loop-obstacle-preserved
loop-obstacle-preserved c =
    let text = obstacle_text (texts_of c.args.files.now) (domain_of c.args.domain.now) (ground_of c.args.task.now)
    (map ground_of c.args.guards.now) in
    made_on (λ ys. flat_map text (map obstacle_of ys)) (λ y. text (obstacle_of y)) c.args.obstacles.now
    c.loop-obstacle.obstacle-index c.obstacle-item.result _ _ _ (λ y ys. refl) c.loop-obstacle-test.true c.obstacle-item.is
    c.loop-obstacle.invariant c.in_ok-push_obstacle.ensures
