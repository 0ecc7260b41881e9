use Rattle.std.proofs.Common.{FitsSigned, rules}
use Rattle.std.specs.Int.{w128}
use Rattle.hp_out.proofs.PageSteps.{first_not_put, rest_put}
use Rattle.hp_out.proofs.ReportSteps.{best_measure}
use Rattle.hp_out.proofs.plans.push_best_line.Goals as goal

-- the word couldn't be put
pub returns-in_err-push-clause-puts : goal.returns-in_err-push-clause-puts
returns-in_err-push-clause-puts g c =
    let fits : FitsSigned w128 c.args.cost = search rules in
    first_not_put _ _ _ _ _ _ _ _ c.from_residual.ensures.0 c.in_err-push.was c.push.ensures.puts
    (best_measure c.args.cost c.args.steps fits)

-- the word and then the measure of the plan
pub returns-clause-puts : goal.returns-clause-puts
returns-clause-puts g c =
    let fits : FitsSigned w128 c.args.cost = search rules in
    rest_put c.push_measure.result _ _ _ _ _ _ c.in_ok-push.ensures.puts c.push_measure.ensures.puts
    (best_measure c.args.cost c.args.steps fits)
