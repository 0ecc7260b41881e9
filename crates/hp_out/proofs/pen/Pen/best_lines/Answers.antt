use Rattle.std.proofs.Common.{FitsSigned, ap, map, rules}
use Rattle.std.specs.Int.{w128}
use Rattle.std.proofs.lemmas.Int.{to_z-of_z}
use Rattle.hp_syntax.specs.GroundViews.{ground_of}
use Rattle.hp_syntax.specs.Report.{best_text}
use Rattle.hp_out.proofs.PageSteps.{first_not_written, page_written}
use Rattle.hp_out.proofs.WriteSteps.{writes_same}
use Rattle.hp_out.proofs.pen.Pen.best_lines.Goals as goal

pub returns-in_err-push_best-clause-writes : goal.returns-in_err-push_best-clause-writes
returns-in_err-push_best-clause-writes g c =
    let fits : FitsSigned w128 c.args.cost = search rules in
    writes_same c.from_residual.result _ _ _ _
    (ap (λ cost. best_text cost (map ground_of c.args.steps.now)) (to_z-of_z w128 c.args.cost fits))
    (first_not_written _ _ _ _ _ _ _ _ c.new-plan.ensures c.from_residual.ensures.0 c.in_err-push_best.was
    c.push_best.ensures.puts)

-- the plan was put on the page, and then the page is written
pub returns-clause-writes : goal.returns-clause-writes
returns-clause-writes g c =
    let fits : FitsSigned w128 c.args.cost = search rules in
    writes_same c.flush.result _ _ _ _
    (ap (λ cost. best_text cost (map ground_of c.args.steps.now)) (to_z-of_z w128 c.args.cost fits))
    (page_written _ _ _ _ _ _ _ c.new-plan.ensures c.in_ok-push_best.ensures.puts c.flush.ensures.writes)
