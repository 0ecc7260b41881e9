use Rattle.std.proofs.Common.{codes, refl}
use Rattle.hp_out.proofs.PageSteps.{rest_put}
use Rattle.hp_out.proofs.grounds.push_ground_line.Goals as goal

-- the term and then the end of its line
pub returns-clause-puts : goal.returns-clause-puts
returns-clause-puts g c =
    rest_put _ _ (codes "\n") _ _ _ _ c.in_ok-push_ground.ensures.puts c.push.ensures.puts refl
