use Rattle.std.proofs.Common.{◌≡◌, ◌∙◌, FitsSigned, [], ap, cond, refl, rules, sym}
use Rattle.std.specs.Int.{w128}
use Rattle.std.proofs.lemmas.Int.{to_z-of_z}
use Rattle.hp_syntax.specs.Report.{path_line, plan_text}
use Rattle.hp_syntax.specs.Walk.{told}
use Rattle.hp_world.specs.Stages.{terms_at}
use Rattle.hp_out.proofs.PageSteps.{first_not_put, puts_same, rest_put}
use Rattle.hp_out.proofs.ReportSteps.{for_two}
use Rattle.hp_out.proofs.plans.push_placed.Goals as goal

-- where the plan couldn't be put nothing behind it was
pub returns-in_err-push_plan-clause-puts : goal.returns-in_err-push_plan-clause-puts
returns-in_err-push_plan-clause-puts g c =
    let fits : FitsSigned w128 c.cost.result = search rules in
    let path = (g.W.Walk.stands c.args.walk.now).path in
    for_two _ _ (λ n. c.cost.result ≡ n.cost) _ c.plan.ensures.steps c.cost.ensures
    (λ n s k.
    first_not_put _ _ _ (plan_text c.args.number n) (cond c.args.paths (path_line (told path)) []) _ _ _
    c.from_residual.ensures.0 c.in_err-push_plan.was
    (c.push_plan.ensures.puts n (sym s ∙ ap (λ ts. terms_at ts c.plan.result.now) (sym c.cells.ensures))
    (sym k ∙ sym (to_z-of_z w128 c.cost.result fits)))
    refl)

-- the plan and then its path
pub returns-clause-puts : goal.returns-clause-puts
returns-clause-puts g c =
    let fits : FitsSigned w128 c.cost.result = search rules in
    let path = (g.W.Walk.stands c.args.walk.now).path in
    for_two _ _ (λ n. c.cost.result ≡ n.cost) _ c.plan.ensures.steps c.cost.ensures
    (λ n s k.
    rest_put c.push_asked_path.result (plan_text c.args.number n) (cond c.args.paths (path_line (told path)) []) _ _ _ _
    (c.in_ok-push_plan.ensures.puts n (sym s ∙ ap (λ ts. terms_at ts c.plan.result.now) (sym c.cells.ensures))
    (sym k ∙ sym (to_z-of_z w128 c.cost.result fits)))
    (puts_same c.push_asked_path.result _ _ _ _ (ap (λ p. cond c.args.paths (path_line p) []) c.path.ensures)
    c.push_asked_path.ensures.puts)
    refl)
