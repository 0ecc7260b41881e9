use Rattle.hp_out.proofs.PageSteps.{first_not_written, page_written}
use Rattle.hp_out.proofs.pen.Pen.path_line.Goals as goal

pub returns-in_err-push_path_line-clause-writes : goal.returns-in_err-push_path_line-clause-writes
returns-in_err-push_path_line-clause-writes g c =
    first_not_written _ _ _ _ _ _ _ _ c.new-line.ensures c.from_residual.ensures.0 c.in_err-push_path_line.was
    c.push_path_line.ensures.puts

pub returns-clause-writes : goal.returns-clause-writes
returns-clause-writes g c =
    page_written _ _ _ _ _ _ _ c.new-line.ensures c.in_ok-push_path_line.ensures.puts c.flush.ensures.writes
