use Rattle.std.proofs.Common.{FitsSigned, rules, sym}
use Rattle.std.specs.Int.{w128}
use Rattle.hp_out.proofs.PageSteps.{put_as}
use Rattle.hp_out.proofs.ReportSteps.{for_two, line_part}
use Rattle.hp_out.proofs.plans.push_told_line.Goals as goal

-- the line of the plan
pub returns-clause-puts : goal.returns-clause-puts
returns-clause-puts g c =
    let fits : FitsSigned w128 c.cost.result = search rules in
    for_two _ _ _ _ c.plan.ensures.steps c.cost.ensures
    (λ n s k.
    put_as c.push_line.result _ _ _ _
    (line_part n c.args.number c.cost.result _ c.plan.result.now (sym s) (sym k) fits) c.push_line.ensures.puts)
