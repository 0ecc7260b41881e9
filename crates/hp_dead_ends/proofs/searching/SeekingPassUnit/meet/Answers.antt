use Rattle.std.proofs.Common.{length, refl, ap, ap₂, ◌∙◌, arith}
use Rattle.hp_passes.specs.Passing.{sight_of}
use Rattle.hp_syntax.specs.Walk.{visit}
use Rattle.hp_dead_ends.specs.Searching.{is_over}
use Rattle.hp_dead_ends.proofs.MeetSteps.{many_steps, meets_cut, meets_did, meets_end}
use Rattle.hp_dead_ends.proofs.searching.SeekingPassUnit.meet.Goals as goal

pub returns-in_ok-go_to-in-Did-clause-meets : goal.returns-in_ok-go_to-in-Did-clause-meets
returns-in_ok-go_to-in-Did-clause-meets g c = λ n at.
    let q = (g.W.Walk.stands c.args.walk.now).path in
    let x = sight_of c.args.sight in
    meets_did c.args.self.now c.close.new.self q n x c.is_over-over.result c.in_ok-close.ensures
    (c.is_over-over.ensures ∙ ap₂ (is_over x) (ap length c.path.ensures) (omega arith)) c.go_to.new.self _ _
    (ap sight_of c.in-Did.is) (c.in_ok-go_to-in-Did.ensures (visit q n x) c.path-in-Did.ensures
    (many_steps (g.W.Walk.terms c.args.walk.now) c.plan.result.now _ n at c.plan.ensures.steps))

pub returns-in-Plan-clause-meets : goal.returns-in-Plan-clause-meets
returns-in-Plan-clause-meets g c = λ n at.
    let q = (g.W.Walk.stands c.args.walk.now).path in
    let x = sight_of c.args.sight in
    let e = ap sight_of c.in-Plan.is in
    meets_end c.args.self.now c.close.new.self q n x c.is_over-over.result c.in_ok-close.ensures
    (c.is_over-over.ensures ∙ ap₂ (is_over x) (ap length c.path.ensures) (omega arith)) _ _ _
    (rw e refl) (λ k. rw e refl)

pub returns-in_ok-cut-in-Cut-clause-meets : goal.returns-in_ok-cut-in-Cut-clause-meets
returns-in_ok-cut-in-Cut-clause-meets g c = λ n at.
    let q = (g.W.Walk.stands c.args.walk.now).path in
    let x = sight_of c.args.sight in
    let e = ap sight_of c.in-Cut.is in
    meets_cut c.args.self.now c.close.new.self q n x c.is_over-over.result c.in_ok-close.ensures
    (c.is_over-over.ensures ∙ ap₂ (is_over x) (ap length c.path.ensures) (omega arith)) c.cut.new.self _ _
    e (c.in_ok-cut-in-Cut.ensures (visit q n x) c.path-in-Cut.ensures e)

pub returns-in-Fault-clause-meets : goal.returns-in-Fault-clause-meets
returns-in-Fault-clause-meets g c = λ n at.
    let q = (g.W.Walk.stands c.args.walk.now).path in
    let x = sight_of c.args.sight in
    let e = ap sight_of c.in-Fault.is in
    meets_end c.args.self.now c.close.new.self q n x c.is_over-over.result c.in_ok-close.ensures
    (c.is_over-over.ensures ∙ ap₂ (is_over x) (ap length c.path.ensures) (omega arith)) _ _ _
    (rw e refl) (λ k. rw e refl)
