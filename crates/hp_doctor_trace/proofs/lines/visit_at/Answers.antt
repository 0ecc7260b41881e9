use Rattle.std.proofs.Common.{ap, slice_get, ◌∙◌}
use Rattle.std.proofs.lemmas.List.{map-id}
use Rattle.hp_doctor_tree.proofs.DeedSteps.{item_at}
use Rattle.hp_trace.specs.declared.tracing.TracedVisit.{TracedVisit}
use Rattle.hp_doctor_trace.proofs.lines.visit_at.Goals as goal

pub returns : goal.returns
returns c =
    item_at (λ (v : TracedVisit). v) c.args.visits.now c.args.number c.get.result c.get.ensures.lookup
    ∙ ap (λ vs. slice_get vs c.args.number) (map-id c.args.visits.now)
