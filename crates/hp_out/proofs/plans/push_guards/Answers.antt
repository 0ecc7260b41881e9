use Rattle.std.proofs.Common.{refl}
use Rattle.hp_syntax.specs.Report.{lines_text}
use Rattle.hp_world.specs.Stages.{terms_at}
use Rattle.hp_out.proofs.PageSteps.{first_not_put, rest_put}
use Rattle.hp_out.proofs.plans.push_guards.Goals as goal

-- the count couldn't be put
pub returns-in_err-push_count-clause-puts : goal.returns-in_err-push_count-clause-puts
returns-in_err-push_count-clause-puts g c =
    first_not_put _ _ _ _ (lines_text (terms_at c.args.cells.now c.args.guards.now)) _ _ _ c.from_residual.ensures.0
    c.in_err-push_count.was c.push_count.ensures.puts refl

-- the count and then the lines
pub returns-clause-puts : goal.returns-clause-puts
returns-clause-puts g c =
    rest_put c.push_lines.result _ _ _ _ _ _ c.in_ok-push_count.ensures.puts c.push_lines.ensures.puts refl
