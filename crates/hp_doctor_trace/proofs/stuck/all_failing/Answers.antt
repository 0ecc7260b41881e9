use Rattle.std.proofs.Common.{map, refl}
use Rattle.std.specs.List.{flat_map}
use Rattle.hp_syntax.proofs.ListLemmas.{made_on}
use Rattle.hp_obstacles.specs.Obstacles.{stuck_of}
use Rattle.hp_doctor_trace.specs.Failing.{failing_at}
use Rattle.hp_doctor_trace.proofs.stuck.all_failing.Goals as goal

pub loop-one-preserved : goal.loop-one-preserved
loop-one-preserved c =
    made_on (λ ys. flat_map failing_at (map stuck_of ys)) (λ y. failing_at (stuck_of y)) c.args.stuck.now
    c.loop-one.one-index c.one-item.result _ _ _ (λ y ys. refl) c.loop-one-test.true c.one-item.is
    c.loop-one.invariant c.in_ok-add_stuck.ensures
