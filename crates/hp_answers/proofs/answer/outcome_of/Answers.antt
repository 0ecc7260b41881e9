use Rattle.std.proofs.Common.{◌∙◌, sym, ap}
use Rattle.hp_syntax.specs.Events.{finding, Nothing}
use Rattle.hp_answers.specs.AnswerViews.{answer_events}
use Rattle.hp_answers.proofs.AnswerLemmas.{after_cut, sat_decides, fault_decides, cut_passes, all_decided}
use Rattle.hp_answers.proofs.answer.outcome_of.Goals as goal

pub returns-in-Sat : goal.returns-in-Sat
returns-in-Sat c =
    λ terms. sat_decides c.loop-x.cut terms c.args.found.now c.loop-x.x-index c.x-item.result c.in-Sat.field-0
    (finding (answer_events terms c.args.found.now)) c.loop-x-test.true c.x-item.is c.in-Sat.is
    (c.loop-x.invariant terms)

pub returns-in-Fault : goal.returns-in-Fault
returns-in-Fault c =
    λ terms. fault_decides c.loop-x.cut terms c.args.found.now c.loop-x.x-index c.x-item.result c.in-Fault.fault
    (finding (answer_events terms c.args.found.now)) c.loop-x-test.true c.x-item.is c.in-Fault.is
    (c.loop-x.invariant terms)

pub loop-x-preserved : goal.loop-x-preserved
loop-x-preserved c =
    λ terms. cut_passes c.loop-x.cut terms c.args.found.now c.loop-x.x-index c.x-item.result
    (finding (answer_events terms c.args.found.now)) c.loop-x-test.true c.x-item.is c.in-Cut.is
    (c.loop-x.invariant terms)

pub returns-then-cut : goal.returns-then-cut
returns-then-cut c =
    λ terms. sym (all_decided c.loop-x.cut terms c.args.found.now c.loop-x.x-index
    (finding (answer_events terms c.args.found.now)) c.loop-x-test.false (c.loop-x.invariant terms)
    ∙ ap (λ b. after_cut b Nothing) c.if-cut.true)

pub returns-else-cut : goal.returns-else-cut
returns-else-cut c =
    λ terms. sym (all_decided c.loop-x.cut terms c.args.found.now c.loop-x.x-index
    (finding (answer_events terms c.args.found.now)) c.loop-x-test.false (c.loop-x.invariant terms)
    ∙ ap (λ b. after_cut b Nothing) c.if-cut.false)
