use Rattle.std.proofs.Common.{◌<◌, ◌^◌, arith}
use Rattle.hp_out.specs.Endings.{ending_of}
use Rattle.hp_out.proofs.PageSteps.{first_not_put, rest_put}
use Rattle.hp_out.proofs.ReportSteps.{counts_text, ending_parts}
use Rattle.hp_out.proofs.endings.push_ending.Goals as goal

pub returns-in_err-push_word-clause-puts : goal.returns-in_err-push_word-clause-puts
returns-in_err-push_word-clause-puts g c =
    let few : c.args.expansions < 2 ^ 64 = omega arith in
    first_not_put _ _ _ _ (counts_text c.args.plans c.args.expansions) _ _ _ c.from_residual.ensures.0
    c.in_err-push_word.was c.push_word.ensures.puts
    (ending_parts (ending_of c.args.ending.now) c.args.plans c.args.expansions few)

pub returns-clause-puts : goal.returns-clause-puts
returns-clause-puts g c =
    let few : c.args.expansions < 2 ^ 64 = omega arith in
    rest_put c.push_counts.result _ _ _ _ _ _ c.in_ok-push_word.ensures.puts c.push_counts.ensures.puts
    (ending_parts (ending_of c.args.ending.now) c.args.plans c.args.expansions few)
