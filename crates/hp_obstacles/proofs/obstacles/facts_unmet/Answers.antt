use Rattle.std.proofs.Common.{ap, ◌∙◌, Bor}
use Rattle.std.specs.Prelude.{option_map}
use Rattle.std.proofs.lemmas.Result.{IfOk-weaker}
use Rattle.hp_syntax.specs.declared.name.Name.{Name}
use Rattle.hp_obstacles.specs.Facts.{facts_of, shown}
use Rattle.hp_obstacles.proofs.ObstacleSteps.{mapped_twice}
use Rattle.hp_obstacles.proofs.obstacles.facts_unmet.Goals as goal

pub returns : goal.returns
returns c =
    let name = c.name_unmet-name.result in
    IfOk-weaker c.facts_if.result _ _
    (λ f h n at.
    h n at ∙ mapped_twice (λ (m : Bor Name). m.now) (λ m. shown (facts_of m n.state)) name
    ∙ ap (option_map (λ m. shown (facts_of m n.state))) c.name_unmet-name.ensures)
    c.facts_if.ensures
