use Rattle.std.proofs.Common.{◌++◌}
use Rattle.std.specs.Prelude.{codes, decimal}
use Rattle.hp_doctor_why.proofs.FurtherSteps.{one_further}
use Rattle.hp_doctor_why.proofs.numbers.push_all_further.Goals as goal

pub loop-number-preserved : goal.loop-number-preserved
loop-number-preserved c =
    one_further (λ n. codes "." ++ decimal n) c.args.further.now c.loop-number.number-index _ _ _
    c.loop-number-test.true c.loop-number.invariant c.in_ok-push_further.ensures
