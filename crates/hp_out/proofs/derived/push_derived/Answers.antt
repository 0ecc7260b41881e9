use Rattle.std.proofs.Common.{FitsSigned, codes, rules}
use Rattle.std.specs.Int.{w128}
use Rattle.hp_out.proofs.AnswerSteps.{derived_words, way_text}
use Rattle.hp_out.proofs.PageSteps.{first_not_put, rest_put}
use Rattle.hp_out.proofs.ReportSteps.{cost_text}
use Rattle.hp_out.proofs.derived.push_derived.Goals as goal

-- the cost couldn't be put
pub returns-in_err-push_cost-clause-puts : goal.returns-in_err-push_cost-clause-puts
returns-in_err-push_cost-clause-puts g c =
    let fits : FitsSigned w128 c.args.cost = search rules in
    let path = c.args.path.now in
    first_not_put _ _ _ (cost_text (codes "derived cost ") c.args.cost) (way_text path c.args.expansions) _ _ _
    c.from_residual.ensures.0 c.in_err-push_cost.was c.push_cost.ensures.puts
    (derived_words c.args.cost path c.args.expansions fits)

-- the cost, and then the path and the count
pub returns-clause-puts : goal.returns-clause-puts
returns-clause-puts g c =
    let fits : FitsSigned w128 c.args.cost = search rules in
    let path = c.args.path.now in
    rest_put c.push_way.result (cost_text (codes "derived cost ") c.args.cost) (way_text path c.args.expansions) _ _ _ _
    c.in_ok-push_cost.ensures.puts c.push_way.ensures.puts (derived_words c.args.cost path c.args.expansions fits)
