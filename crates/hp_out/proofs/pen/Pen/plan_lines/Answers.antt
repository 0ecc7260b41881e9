use Rattle.std.proofs.Common.{rules}
use Rattle.hp_out.proofs.PageSteps.{page_written}
use Rattle.hp_out.proofs.ReportSteps.{for_one}
use Rattle.hp_out.proofs.pen.Pen.plan_lines.Goals as goal

pub returns-in_err-push_told-clause-writes : goal.returns-in_err-push_told-clause-writes
returns-in_err-push_told-clause-writes g c = search rules

-- the plan was put on the page, and then the page is written
pub returns-clause-writes : goal.returns-clause-writes
returns-clause-writes g c =
    for_one _ _ _ c.in_ok-push_told.ensures.puts
    (λ n p. page_written c.flush.result _ _ _ _ _ _ c.new-page.ensures p c.flush.ensures.writes)
