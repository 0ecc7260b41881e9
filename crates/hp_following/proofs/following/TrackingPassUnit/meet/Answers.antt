use Rattle.std.proofs.Common.{ap}
use Rattle.hp_dead_ends.proofs.MeetSteps.{many_steps}
use Rattle.hp_following.proofs.MeetSteps.{begins_there, meets_did}
use Rattle.hp_following.specs.Tracking.{plan_of}
use Rattle.hp_passes.specs.Passing.{sight_of}
use Rattle.hp_syntax.specs.Walk.{visit}
use Rattle.hp_following.proofs.following.TrackingPassUnit.meet.Goals as goal

pub returns-in_ok-note-in-Did-clause-meets : goal.returns-in_ok-note-in-Did-clause-meets
returns-in_ok-note-in-Did-clause-meets g c = λ n at.
    let v = visit (g.W.Walk.stands c.args.walk.now).path n (sight_of c.args.sight) in
    meets_did c.args.self.now c.note.new.self _ _ v (ap sight_of c.in-Did.is)
    (begins_there (plan_of c.args.self.now) _ n c.leads_on.result at c.leads_on.ensures c.if-not-leads_on.false)
    (c.in_ok-note-in-Did.ensures v c.path.ensures
    (many_steps (g.W.Walk.terms c.args.walk.now) c.plan.result.now _ n at c.plan.ensures.steps))
