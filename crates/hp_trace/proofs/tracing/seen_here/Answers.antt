use Rattle.std.proofs.Common.{length, ap, arith}
use Rattle.hp_passes.specs.Passing.{sight_of}
use Rattle.hp_search.specs.Planned.{stands_planned}
use Rattle.hp_trace.proofs.StuckSteps.{deed_seen}
use Rattle.hp_trace.proofs.TraceSteps.{told_long}
use Rattle.hp_trace.proofs.tracing.seen_here.Goals as goal

pub returns-in_ok-deed-in-Did : goal.returns-in_ok-deed-in-Did
returns-in_ok-deed-in-Did c = λ n at deep.
    let p = c.args.planner.now in
    let q = (stands_planned p).path in
    let long = told_long q in
    let told = ap length c.path-level.ensures in
    deed_seen p c.in_ok-deed-in-Did.deed _ n (sight_of c.args.sight) (ap sight_of c.in-Did.is) c.requires.below
    (omega (arith, told, long)) at c.in_ok-deed-in-Did.ensures
