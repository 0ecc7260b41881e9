use Rattle.hp_out.proofs.PageSteps.{page_written}
use Rattle.hp_out.proofs.ReportSteps.{for_one}
use Rattle.hp_out.proofs.pen.Pen.plan_line.Goals as goal

-- the line was put on the page, and then the page is written
pub returns-clause-writes : goal.returns-clause-writes
returns-clause-writes g c =
    for_one _ _ _ c.in_ok-push_told_line.ensures.puts
    (λ n p. page_written c.flush.result _ _ _ _ _ _ c.new-line.ensures p c.flush.ensures.writes)
