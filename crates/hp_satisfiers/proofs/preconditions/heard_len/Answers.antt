use Rattle.hp_syntax.specs.Preconditions.{heard}
use Rattle.hp_answers.specs.AnswerViews.{answer_events}
use Rattle.hp_satisfiers.proofs.PreconditionSteps.{heard_more, heard_fault, heard_all}
use Rattle.hp_satisfiers.proofs.preconditions.heard_len.Goals as goal

pub returns-in-Fault : goal.returns-in-Fault
returns-in-Fault c =
    λ terms. heard_fault terms c.args.found.now c.loop-i.i (heard (answer_events terms c.args.found.now))
    (c.loop-i.invariant terms) c.index-found-i.result c.in-Fault.field-0 c.loop-i-test.true c.index-found-i.is
    c.in-Fault.is

pub loop-i-preserved : goal.loop-i-preserved
loop-i-preserved c =
    λ terms. heard_more terms c.args.found.now c.loop-i.i (heard (answer_events terms c.args.found.now))
    (c.loop-i.invariant terms) c.index-found-i.result c.loop-i-test.true c.index-found-i.is c.in_default.not-Fault

pub returns : goal.returns
returns c =
    λ terms. heard_all terms c.args.found.now c.loop-i.i (heard (answer_events terms c.args.found.now))
    (c.loop-i.invariant terms) c.loop-i-test.false
