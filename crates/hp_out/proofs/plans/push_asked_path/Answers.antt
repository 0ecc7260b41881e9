use Rattle.hp_syntax.specs.Report.{path_line}
use Rattle.hp_out.proofs.PageSteps.{empty_put, puts_same}
use Rattle.hp_out.proofs.PathSteps.{is_asked, not_asked}
use Rattle.hp_out.proofs.plans.push_asked_path.Goals as goal

pub returns-then-not-paths-clause-puts : goal.returns-then-not-paths-clause-puts
returns-then-not-paths-clause-puts g c =
    empty_put _ _ (not_asked c.args.paths (path_line c.args.path.now) c.if-not-paths.true)

pub returns-clause-puts : goal.returns-clause-puts
returns-clause-puts g c =
    puts_same c.push_path_line.result _ _ _ _
    (is_asked c.args.paths (path_line c.args.path.now) c.if-not-paths.false) c.push_path_line.ensures.puts
