use Rattle.std.proofs.Common.{sym, ◌∙◌}
use Rattle.hp_verify.proofs.ComparedSteps.{plan_missing, step_differs, step_same, steps_end}
use Rattle.hp_verify.proofs.comparing.begin.Goals as goal

pub returns-in_default : goal.returns-in_default
returns-in_default c =
    plan_missing c.args.cells.now c.args.steps.now c.args.plan.now c.loop-i.i c.index-steps-i.result
    c.loop-i-test.true c.in_default.ensures.lookup.3
    ∙ c.loop-i.invariant

pub returns-then-not-is_term : goal.returns-then-not-is_term
returns-then-not-is_term c =
    step_differs c.args.cells.now c.args.steps.now c.args.plan.now c.loop-i.i c.index-steps-i.result
    c.loop-i-test.true c.in-Some.own.now c.index-steps-i.is c.in-Some.ensures.lookup.3.0 c.in-Some.ensures.lookup.1
    (sym c.is_term.ensures ∙ c.if-not-is_term.true)
    ∙ c.loop-i.invariant

pub loop-i-preserved : goal.loop-i-preserved
loop-i-preserved c =
    step_same c.args.cells.now c.args.steps.now c.args.plan.now c.loop-i.i c.index-steps-i.result
    c.loop-i-test.true c.in-Some.own.now c.index-steps-i.is c.in-Some.ensures.lookup.3.0 c.in-Some.ensures.lookup.1
    (sym c.is_term.ensures ∙ c.if-not-is_term.false)
    ∙ c.loop-i.invariant

pub returns : goal.returns
returns c =
    steps_end c.args.cells.now c.args.steps.now c.args.plan.now c.loop-i.i c.loop-i-test.false ∙ c.loop-i.invariant
