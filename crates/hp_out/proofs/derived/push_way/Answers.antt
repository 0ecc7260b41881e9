use Rattle.std.proofs.Common.{◌++◌, codes, refl}
use Rattle.hp_syntax.specs.Report.{path_text}
use Rattle.hp_out.proofs.AnswerSteps.{expansions_text, way_words}
use Rattle.hp_out.proofs.PageSteps.{first_not_put, rest_put}
use Rattle.hp_out.proofs.derived.push_way.Goals as goal

-- the word couldn't be put
pub returns-in_err-push-clause-puts : goal.returns-in_err-push-clause-puts
returns-in_err-push-clause-puts g c =
    let path = c.args.path.now in
    first_not_put _ _ _ (codes " path ") (path_text path ++ expansions_text c.args.expansions) _ _ _
    c.from_residual.ensures.0 c.in_err-push.was c.push.ensures.puts (way_words path c.args.expansions)

-- the path couldn't be put behind it
pub returns-in_err-push_path-clause-puts : goal.returns-in_err-push_path-clause-puts
returns-in_err-push_path-clause-puts g c =
    let path = c.args.path.now in
    let count = expansions_text c.args.expansions in
    let r = c.from_residual-in_err-push_path.result in
    rest_put r (codes " path ") (path_text path ++ count) _ _ _ _ c.in_ok-push.ensures.puts
    (first_not_put r _ _ (path_text path) count (path_text path ++ count) _ _
    c.from_residual-in_err-push_path.ensures.0 c.in_err-push_path.was c.push_path.ensures.puts refl)
    (way_words path c.args.expansions)

-- the word, the path and the count
pub returns-clause-puts : goal.returns-clause-puts
returns-clause-puts g c =
    let path = c.args.path.now in
    let count = expansions_text c.args.expansions in
    let r = c.push_expansions.result in
    rest_put r (codes " path ") (path_text path ++ count) _ _ _ _ c.in_ok-push.ensures.puts
    (rest_put r (path_text path) count (path_text path ++ count) _ _ _ c.in_ok-push_path.ensures.puts
    c.push_expansions.ensures.puts refl)
    (way_words path c.args.expansions)
