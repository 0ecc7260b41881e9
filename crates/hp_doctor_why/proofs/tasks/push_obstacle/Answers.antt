use Rattle.std.proofs.Common.{◌++◌, map, ap, sym, ◌∙◌}
use Rattle.std.proofs.lemmas.Result.{on_ok_weaker}
use Rattle.hp_obstacles.specs.Obstacles.{obstacle_of}
use Rattle.hp_syntax.specs.GroundViews.{ground_of}
use Rattle.hp_syntax.specs.Views.{domain_of}
use Rattle.hp_doctor.specs.Texts.{texts_of}
use Rattle.hp_doctor_why.specs.Said.{obstacle_by}
use Rattle.hp_doctor_why.proofs.tasks.push_obstacle.Goals as goal

pub returns-in-Part : goal.returns-in-Part
returns-in-Part c =
    on_ok_weaker c.push_part.result
    (λ h. h ∙ ap (λ u. c.args.out.now.items ++ obstacle_by (texts_of c.args.files.now) (domain_of c.args.domain.now)
    (ground_of c.args.task.now) (map ground_of c.args.guards.now) (obstacle_of c.args.obstacle.now) u)
    (sym c.in-Part.is))
    c.push_part.ensures
