use Rattle.std.proofs.Common.{ap, map, option_map, slice_get, sym, ◌∙◌}
use Rattle.hp_doctor_derive.proofs.PlanSteps.{span_given}
use Rattle.hp_doctor_derive.proofs.plans.span_at.Goals as goal

pub returns-in-Some : goal.returns-in-Some
returns-in-Some c =
    sym (ap (option_map (λ b. b.now.span)) c.in-Some.is)
    ∙ span_given c.args.plan.now.forest c.args.step c.deref.result.now c.deref.ensures.value c.get.result
    c.get.ensures.lookup

pub returns-in-None : goal.returns-in-None
returns-in-None c =
    sym (ap (option_map (λ b. b.now.span)) c.in-None.is)
    ∙ span_given c.args.plan.now.forest c.args.step c.deref.result.now c.deref.ensures.value c.get.result
    c.get.ensures.lookup
