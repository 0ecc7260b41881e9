use Rattle.hp_out.proofs.PageSteps.{first_not_written, page_written}
use Rattle.hp_out.proofs.pen.Pen.ending_line.Goals as goal

pub returns-in_err-push_ending-clause-writes : goal.returns-in_err-push_ending-clause-writes
returns-in_err-push_ending-clause-writes g c =
    first_not_written _ _ _ _ _ _ _ _ c.new-line.ensures c.from_residual.ensures.0 c.in_err-push_ending.was
    c.push_ending.ensures.puts

pub returns-clause-writes : goal.returns-clause-writes
returns-clause-writes g c =
    page_written _ _ _ _ _ _ _ c.new-line.ensures c.in_ok-push_ending.ensures.puts c.flush.ensures.writes
