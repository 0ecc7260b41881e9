use Rattle.std.proofs.Common.{refl, map}
use Rattle.std.specs.List.{flat_map}
use Rattle.hp_syntax.proofs.ListLemmas.{made_on}
use Rattle.hp_syntax.specs.GroundViews.{ground_of}
use Rattle.hp_syntax.specs.Views.{domain_of}
use Rattle.hp_doctor.specs.Texts.{texts_of}
use Rattle.hp_obstacles.specs.Obstacles.{stuck_of}
use Rattle.hp_doctor_why.specs.Said.{stuck_text}
use Rattle.hp_doctor_why.proofs.tasks.push_all_stuck.Goals as goal

pub loop-stuck-preserved : goal.loop-stuck-preserved
loop-stuck-preserved c =
    let text = stuck_text (texts_of c.args.files.now) (domain_of c.args.domain.now)
    (map ground_of c.args.guards.now) in
    made_on (λ ys. flat_map text (map stuck_of ys)) (λ y. text (stuck_of y)) c.args.tasks.now
    c.loop-stuck.stuck-index c.stuck-item.result _ _ _ (λ y ys. refl) c.loop-stuck-test.true c.stuck-item.is
    c.loop-stuck.invariant c.in_ok-push_stuck.ensures
