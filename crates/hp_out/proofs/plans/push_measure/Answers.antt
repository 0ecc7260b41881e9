use Rattle.std.proofs.Common.{FitsSigned, codes, rules}
use Rattle.std.specs.Int.{w128}
use Rattle.hp_out.proofs.PageSteps.{first_not_put, rest_put}
use Rattle.hp_out.proofs.ReportSteps.{cost_text, count_line, measure_words}
use Rattle.hp_out.proofs.plans.push_measure.Goals as goal

-- the cost couldn't be put
pub returns-in_err-push_cost-clause-puts : goal.returns-in_err-push_cost-clause-puts
returns-in_err-push_cost-clause-puts g c =
    let fits : FitsSigned w128 c.args.cost = search rules in
    first_not_put _ _ _ (cost_text (codes " cost ") c.args.cost) (count_line (codes " steps ") c.args.steps) _ _ _
    c.from_residual.ensures.0 c.in_err-push_cost.was c.push_cost.ensures.puts
    (measure_words c.args.cost c.args.steps fits)

-- the cost and then the number of steps
pub returns-clause-puts : goal.returns-clause-puts
returns-clause-puts g c =
    let fits : FitsSigned w128 c.args.cost = search rules in
    rest_put c.push_count.result (cost_text (codes " cost ") c.args.cost) (count_line (codes " steps ") c.args.steps)
    _ _ _ _ c.in_ok-push_cost.ensures.puts c.push_count.ensures.puts (measure_words c.args.cost c.args.steps fits)
