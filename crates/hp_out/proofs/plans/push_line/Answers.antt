use Rattle.std.proofs.Common.{◌∙◌, FitsSigned, rules}
use Rattle.std.specs.Int.{w128}
use Rattle.hp_out.proofs.PageSteps.{first_not_put, rest_put}
use Rattle.hp_out.proofs.ReportSteps.{numbered_measure}
use Rattle.hp_out.proofs.plans.push_line.Goals as goal

-- the number of the plan couldn't be put
pub returns-in_err-push_all-clause-puts : goal.returns-in_err-push_all-clause-puts
returns-in_err-push_all-clause-puts g c =
    let fits : FitsSigned w128 c.args.cost = search rules in
    first_not_put _ _ _ _ _ _ _ _ c.from_residual.ensures.0 c.in_err-push_all.was c.push_all.ensures.puts
    (numbered_measure c.args.number c.args.cost c.args.steps c.as_bytes.result.now
    (c.as_bytes.ensures.value ∙ c.format.ensures.text) fits)

-- the number of the plan and then its measure
pub returns-clause-puts : goal.returns-clause-puts
returns-clause-puts g c =
    let fits : FitsSigned w128 c.args.cost = search rules in
    rest_put c.push_measure.result _ _ _ _ _ _ c.in_ok-push_all.ensures.puts c.push_measure.ensures.puts
    (numbered_measure c.args.number c.args.cost c.args.steps c.as_bytes.result.now
    (c.as_bytes.ensures.value ∙ c.format.ensures.text) fits)
