use Rattle.std.proofs.Common.{◌++◌, codes, refl}
use Rattle.hp_syntax.specs.Report.{path_text}
use Rattle.hp_out.proofs.PageSteps.{first_not_put, rest_put}
use Rattle.hp_out.proofs.PathSteps.{path_words}
use Rattle.hp_out.proofs.paths.push_path_line.Goals as goal

-- the word couldn't be put
pub returns-in_err-push-clause-puts : goal.returns-in_err-push-clause-puts
returns-in_err-push-clause-puts g c =
    let path = c.args.path.now in
    first_not_put _ _ _ (codes "path ") (path_text path ++ codes "\n") _ _ _ c.from_residual.ensures.0
    c.in_err-push.was c.push.ensures.puts (path_words path)

-- the path couldn't be put behind it
pub returns-in_err-push_path-clause-puts : goal.returns-in_err-push_path-clause-puts
returns-in_err-push_path-clause-puts g c =
    let path = c.args.path.now in
    let both = path_text path ++ codes "\n" in
    let r = c.from_residual-in_err-push_path.result in
    rest_put r (codes "path ") both _ _ _ _ c.in_ok-push.ensures.puts
    (first_not_put r _ _ (path_text path) (codes "\n") both _ _ c.from_residual-in_err-push_path.ensures.0
    c.in_err-push_path.was c.push_path.ensures.puts refl)
    (path_words path)

-- the word, the path and the end of its line
pub returns-clause-puts : goal.returns-clause-puts
returns-clause-puts g c =
    let path = c.args.path.now in
    let both = path_text path ++ codes "\n" in
    let r = c.push-2.result in
    rest_put r (codes "path ") both _ _ _ _ c.in_ok-push.ensures.puts
    (rest_put r (path_text path) (codes "\n") both _ _ _ c.in_ok-push_path.ensures.puts c.push-2.ensures.puts refl)
    (path_words path)
