use Rattle.std.proofs.Common.{ap, ◌∙◌}
use Rattle.std.proofs.lemmas.Result.{IfOk-weaker}
use Rattle.hp_world.specs.Stages.{state_of}
use Rattle.hp_obstacles.specs.Facts.{facts_of, shown}
use Rattle.hp_obstacles.proofs.NodeSteps.{at_that}
use Rattle.hp_obstacles.proofs.obstacles.facts_here.Goals as goal

pub returns : goal.returns
returns c =
    IfOk-weaker c.facts_in.result _ _
    (λ f e n at. e
    ∙ ap (λ s. shown (facts_of c.args.name.now s))
    (ap (λ ts. state_of ts c.world.result.now.now) c.cells.ensures ∙ at_that _ _ n at c.world.ensures.state))
    c.facts_in.ensures
