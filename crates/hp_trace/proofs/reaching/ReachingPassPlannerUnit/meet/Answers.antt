use Rattle.std.proofs.Common.{refl}
use Rattle.hp_passes.specs.Passing.{sight_of}
use Rattle.hp_search.specs.Planned.{stands_planned}
use Rattle.hp_syntax.specs.Walk.{visit}
use Rattle.hp_trace.proofs.ReachSteps.{meets_below, meets_beside}
use Rattle.hp_trace.proofs.reaching.ReachingPassPlannerUnit.meet.Goals as goal

pub returns-then-starts_with-clause-meets : goal.returns-then-starts_with-clause-meets
returns-then-starts_with-clause-meets c = λ n at.
    let q = (stands_planned c.args.planner.now).path in
    meets_below c.args.self.now c.args._hand.now c.args._hand.now (visit q n (sight_of c.args.sight)) _ _
    c.path-path.result.now c.starts_with.result c.path-path.ensures c.starts_with.ensures.value
    c.if-starts_with.true (refl, refl, refl)

pub returns-else-starts_with-clause-meets : goal.returns-else-starts_with-clause-meets
returns-else-starts_with-clause-meets c = λ n at.
    let q = (stands_planned c.args.planner.now).path in
    meets_beside c.args.self.now c.args._hand.now c.args._hand.now (visit q n (sight_of c.args.sight))
    c.turn_to.result c.args.self.now c.path-path.result.now c.starts_with.result c.path-path.ensures c.starts_with.ensures.value
    c.if-starts_with.false refl (λ small apart. c.turn_to.ensures.is q c.path-path.ensures small apart)
