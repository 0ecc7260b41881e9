use Rattle.hp_out.proofs.PageSteps.{first_not_put, rest_put}
use Rattle.hp_out.proofs.PathSteps.{path_parts}
use Rattle.hp_out.proofs.paths.push_path.Goals as goal

-- the first number couldn't be put
pub returns-in_err-push_number-in-len1-up-clause-puts : goal.returns-in_err-push_number-in-len1-up-clause-puts
returns-in_err-push_number-in-len1-up-clause-puts g c =
    first_not_put _ _ _ _ _ _ _ _ c.from_residual.ensures.0 c.in_err-push_number-in-len1-up.was
    c.push_number.ensures.puts
    (path_parts c.args.path.now 0 c.in-len1-up.len_at_least)

-- the first number and then the others
pub returns-in_ok-push_number-in-len1-up-clause-puts : goal.returns-in_ok-push_number-in-len1-up-clause-puts
returns-in_ok-push_number-in-len1-up-clause-puts g c =
    rest_put c.push_others.result _ _ _ _ _ _ c.in_ok-push_number-in-len1-up.ensures.puts c.push_others.ensures.puts
    (path_parts c.args.path.now 0 c.in-len1-up.len_at_least)
