use Rattle.std.proofs.Common.{subst}
use Rattle.hp_search.specs.Led.{TellsDecomposition}
use Rattle.hp_search.proofs.planner.Planner.decomposition.Goals as goal

pub returns : goal.returns
returns c =
    subst (λ p. TellsDecomposition p c.decomposition.result) c.self.view_is
    (c.decomposition.ensures c.self.inside.live)
