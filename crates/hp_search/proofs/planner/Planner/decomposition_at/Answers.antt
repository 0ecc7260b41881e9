use Rattle.std.proofs.Common.{length, ap, subst, arith}
use Rattle.hp_search.specs.Led.{IsLedAt}
use Rattle.hp_search.specs.Planned.{Planned}
use Rattle.hp_search.proofs.PathFrames.{path_above}
use Rattle.hp_search.proofs.planner.Planner.decomposition_at.Goals as goal

pub decomposition_at-requires-clause-level : goal.decomposition_at-requires-clause-level
decomposition_at-requires-clause-level c =
    omega (arith, c.requires.level, path_above c.args.self.now, ap (λ (p : Planned). length p.above) c.self.view_is)

pub returns : goal.returns
returns c =
    subst (λ p. IsLedAt p c.args.level c.decomposition_at.result) c.self.view_is
    (c.decomposition_at.ensures c.self.inside.live)
