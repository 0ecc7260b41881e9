use Rattle.std.proofs.Common.{codes, decimal, refl}
use Rattle.hp_out.proofs.PageSteps.{first_not_put, rest_put}
use Rattle.hp_out.proofs.paths.push_next.Goals as goal

-- the point couldn't be put
pub returns-in_err-push-clause-puts : goal.returns-in_err-push-clause-puts
returns-in_err-push-clause-puts g c =
    first_not_put _ _ _ (codes ".") (decimal c.args.number) _ _ _ c.from_residual.ensures.0 c.in_err-push.was
    c.push.ensures.puts refl

-- the point and then the number
pub returns-clause-puts : goal.returns-clause-puts
returns-clause-puts g c =
    rest_put c.push_number.result (codes ".") (decimal c.args.number) _ _ _ _ c.in_ok-push.ensures.puts
    c.push_number.ensures.puts refl
