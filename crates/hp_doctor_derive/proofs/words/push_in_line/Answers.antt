use Rattle.std.proofs.Common.{refl, map}
use Rattle.hp_syntax.proofs.ListLemmas.{made_on}
use Rattle.hp_syntax.specs.GroundViews.{ground_of}
use Rattle.hp_obstacles.specs.Obstacles.{stuck_of}
use Rattle.hp_doctor_derive.specs.Said.{in_line, spaced_task}
use Rattle.hp_doctor_derive.proofs.words.push_in_line.Goals as goal

pub loop-stuck-preserved : goal.loop-stuck-preserved
loop-stuck-preserved c =
    made_on (λ ys. in_line (map stuck_of ys)) (λ y. spaced_task (ground_of y.task)) c.args.tasks.now
    c.loop-stuck.stuck-index c.stuck-item.result _ _ _ (λ y ys. refl) c.loop-stuck-test.true c.stuck-item.is
    c.loop-stuck.invariant c.in_ok-push_spaced.ensures
