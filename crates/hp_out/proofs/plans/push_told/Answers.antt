use Rattle.std.proofs.Common.{ℕ, List, ◌++◌, [], cond, refl}
use Rattle.hp_net.specs.Standings.{node_reached}
use Rattle.hp_syntax.specs.Report.{path_line, plan_text, state_text}
use Rattle.hp_syntax.specs.Walk.{Node, told}
use Rattle.hp_out.specs.Pages.{Puts, desk}
use Rattle.hp_out.proofs.PageSteps.{first_not_put, rest_put}
use Rattle.hp_out.proofs.ReportSteps.{for_one, for_two}
use Rattle.hp_out.proofs.plans.push_told.Goals as goal

-- where the plan couldn't be put with its path, its state wasn't
pub returns-in_err-push_placed-clause-puts : goal.returns-in_err-push_placed-clause-puts
returns-in_err-push_placed-clause-puts g c =
    let stands = g.W.Walk.stands c.args.walk.now in
    let first : Node → List ℕ = λ n. plan_text c.args.number n ++ cond c.args.paths (path_line (told stands.path)) [] in
    let old = desk (g.K.Sink.bytes c.args.sink.now) c.args.page.now in
    let new = desk (g.K.Sink.bytes c.push_placed.new.sink) c.push_placed.new.page in
    for_one (node_reached (g.W.Walk.tree c.args.walk.now) stands)
    (λ n. Puts c.push_placed.result (first n) old new) _ c.push_placed.ensures.puts
    (λ n p.
    first_not_put c.from_residual.result c.push_placed.result _ (first n) (cond c.args.states (state_text n) []) _ old
    new c.from_residual.ensures.0 c.in_err-push_placed.was p refl)

-- the plan with its path and then its state
pub returns-clause-puts : goal.returns-clause-puts
returns-clause-puts g c =
    let path = (g.W.Walk.stands c.args.walk.now).path in
    for_two _ _ _ _ c.in_ok-push_placed.ensures.puts c.push_asked_state.ensures.puts
    (λ n p q.
    rest_put c.push_asked_state.result (plan_text c.args.number n ++ cond c.args.paths (path_line (told path)) [])
    (cond c.args.states (state_text n) []) _ _ _ _ p q refl)
