use Rattle.std.proofs.Common.{◌∙◌, length, ap, subst, arith}
use Rattle.hp_search.specs.Led.{IsStageAt}
use Rattle.hp_search.specs.Planned.{Planned}
use Rattle.hp_search.proofs.PathFrames.{path_above}
use Rattle.hp_search.proofs.planner.Planner.into_world_at.Goals as goal

pub take_world_at-world-requires-clause-search : goal.take_world_at-world-requires-clause-search
take_world_at-world-requires-clause-search c =
    c.self.invariant (ap (λ (p : Planned). p.live) c.self.view_is ∙ c.requires.live)

pub take_world_at-world-requires-clause-level : goal.take_world_at-world-requires-clause-level
take_world_at-world-requires-clause-level c =
    omega (arith, c.requires.level, path_above c.args.self, ap (λ (p : Planned). length p.above) c.self.view_is)

pub returns-clause-stage : goal.returns-clause-stage
returns-clause-stage c =
    subst (λ p. IsStageAt p c.args.level c.take_world_at-world.result.now) c.self.view_is
    (c.take_world_at-world.ensures.stage c.self.inside.live)

pub returns-clause-cells : goal.returns-clause-cells
returns-clause-cells c =
    c.into_cells.ensures
    ∙ (c.take_world_at-world.ensures.cells ∙ ap (λ (p : Planned). p.terms) c.self.view_is)
