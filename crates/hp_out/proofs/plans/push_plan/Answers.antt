use Rattle.std.proofs.Common.{length}
use Rattle.hp_syntax.specs.Report.{lines_text}
use Rattle.hp_world.specs.Stages.{terms_at}
use Rattle.hp_out.proofs.PageSteps.{first_not_put, rest_put}
use Rattle.hp_out.proofs.ReportSteps.{line_text, plan_parts}
use Rattle.hp_out.proofs.plans.push_plan.Goals as goal

-- the line of the plan couldn't be put
pub returns-in_err-push_line-clause-puts : goal.returns-in_err-push_line-clause-puts
returns-in_err-push_line-clause-puts g c = λ n s k.
    let terms = c.args.cells.now in
    let steps = c.args.steps.now in
    first_not_put _ _ _ (line_text c.args.number c.args.cost (length steps)) (lines_text (terms_at terms steps)) _ _ _
    c.from_residual.ensures.0 c.in_err-push_line.was c.push_line.ensures.puts
    (plan_parts n c.args.number c.args.cost terms steps s k c.ranges.cost)

-- the line of the plan and then its steps
pub returns-clause-puts : goal.returns-clause-puts
returns-clause-puts g c = λ n s k.
    let terms = c.args.cells.now in
    let steps = c.args.steps.now in
    rest_put c.push_lines.result (line_text c.args.number c.args.cost (length steps))
    (lines_text (terms_at terms steps)) _ _ _ _ c.in_ok-push_line.ensures.puts c.push_lines.ensures.puts
    (plan_parts n c.args.number c.args.cost terms steps s k c.ranges.cost)
