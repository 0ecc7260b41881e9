use Rattle.std.proofs.Common.{FitsSigned, length, rules}
use Rattle.std.specs.Int.{w128}
use Rattle.hp_out.proofs.GroundSteps.{grounds_text}
use Rattle.hp_out.proofs.PageSteps.{first_not_put, rest_put}
use Rattle.hp_out.proofs.ReportSteps.{best_line_text, best_parts}
use Rattle.hp_out.proofs.plans.push_best.Goals as goal

-- the line of the plan couldn't be put
pub returns-in_err-push_best_line-clause-puts : goal.returns-in_err-push_best_line-clause-puts
returns-in_err-push_best_line-clause-puts g c =
    let fits : FitsSigned w128 c.args.cost = search rules in
    let steps = c.args.steps.now in
    first_not_put _ _ _ (best_line_text c.args.cost (length steps)) (grounds_text steps) _ _ _
    c.from_residual.ensures.0 c.in_err-push_best_line.was c.push_best_line.ensures.puts
    (best_parts c.args.cost steps fits)

-- the line of the plan and then its steps
pub returns-clause-puts : goal.returns-clause-puts
returns-clause-puts g c =
    let fits : FitsSigned w128 c.args.cost = search rules in
    let steps = c.args.steps.now in
    rest_put c.push_ground_lines.result (best_line_text c.args.cost (length steps)) (grounds_text steps) _ _ _ _
    c.in_ok-push_best_line.ensures.puts c.push_ground_lines.ensures.puts (best_parts c.args.cost steps fits)
