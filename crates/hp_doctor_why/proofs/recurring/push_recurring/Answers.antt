use Rattle.std.proofs.Common.{map}
use Rattle.hp_syntax.specs.GroundViews.{ground_of}
use Rattle.hp_doctor_why.proofs.RecurSteps.{all_recurring, one_recurring}
use Rattle.hp_doctor_why.proofs.recurring.push_recurring.Goals as goal

pub loop-place-preserved : goal.loop-place-preserved
loop-place-preserved c =
    one_recurring ground_of (map ground_of c.args.tasks.now) c.args.tasks.now c.loop-place.place
    c.index-tasks-place.result _ _ _ c.loop-place-test.true c.index-tasks-place.is c.loop-place.invariant
    c.in_ok-push_at.ensures

pub returns : goal.returns
returns c =
    all_recurring ground_of (map ground_of c.args.tasks.now) c.args.tasks.now c.loop-place.place _ _
    c.loop-place-test.false c.loop-place.invariant
