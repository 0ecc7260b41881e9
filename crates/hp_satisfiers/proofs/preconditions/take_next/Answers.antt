use Rattle.std.proofs.Common.{length, sym, subst, arith}
use Rattle.std.proofs.lemmas.Result.{IfOk-weaker}
use Rattle.hp_syntax.specs.Preconditions.{heard}
use Rattle.hp_eval.specs.Events.{left_after}
use Rattle.hp_answers.specs.AnswerViews.{FindsUpTo}
use Rattle.hp_satisfiers.specs.Listed.{FindsMore}
use Rattle.hp_answers.proofs.AnswerLemmas.{upto_grow}
use Rattle.hp_satisfiers.proofs.PreconditionSteps.{vars_above}
use Rattle.hp_satisfiers.proofs.preconditions.take_next.Goals as goal

pub returns-in_err-event-clause-vars : goal.returns-in_err-event-clause-vars
returns-in_err-event-clause-vars g c =
    vars_above (g.S.Sats.start c.args.sats.now) c.args.slots.now c.next.new.slots
    (g.met.S.Sats.fits_hold c.args.sats.now c.args.slots.now c.requires.fits).0 c.next.ensures.above

pub returns-clause-vars : goal.returns-clause-vars
returns-clause-vars g c =
    vars_above (g.S.Sats.start c.args.sats.now) c.args.slots.now c.next.new.slots
    (g.met.S.Sats.fits_hold c.args.sats.now c.args.slots.now c.requires.fits).0 c.next.ensures.above

pub returns-clause-takes : goal.returns-clause-takes
returns-clause-takes g c =
    let old = c.args.cells.now in
    let new = c.next.new.cells in
    let slots = c.next.new.slots in
    let vars = length c.args.slots.now.values in
    let before = c.args.found.now.items in
    let items = c.take_event.new.found.items in
    let xs = g.S.Sats.rest c.args.sats.now tt old c.args.slots.now in
    let left = g.S.Sats.rest c.next.new.self tt new slots in
    let same =
    vars_above (g.S.Sats.start c.args.sats.now) c.args.slots.now slots
    (g.met.S.Sats.fits_hold c.args.sats.now c.args.slots.now c.requires.fits).0 c.next.ensures.above in
    IfOk-weaker c.take_event.result _ _
    (λ more h whole upto.
    subst (FindsMore new vars items whole more) {x = left_after xs} {y = left} (sym c.in_ok-event.ensures.rest)
    (subst (λ n. FindsMore new n items whole more (left_after xs)) same
    (h new whole xs c.in_ok-event.ensures.event c.in_ok-event.ensures.sat
    (λ v cell k. omega (arith, c.next.ensures.below v cell k, c.next.ensures.kept.1))
    (subst (λ n. FindsUpTo new n before whole (heard xs)) (sym same)
    (upto_grow old new c.next.ensures.cells vars before whole (heard xs) upto)))))
    c.take_event.ensures.takes
