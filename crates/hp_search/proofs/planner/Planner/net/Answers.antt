use Rattle.std.proofs.Common.{◌∙◌, ap, length, subst}
use Rattle.std.specs.List.{All}
use Rattle.hp_links.specs.Linked.{PartBelow}
use Rattle.hp_search.specs.Planned.{HasMarks, Planned}
use Rattle.hp_search.proofs.MarkSteps.{has_marks}
use Rattle.hp_search.proofs.planner.Planner.net.Goals as goal

pub returns-clause-marks : goal.returns-clause-marks
returns-clause-marks c =
    let is = c.self.view_is in
    subst HasMarks is
    (has_marks c.self.inside.search c.self.inside.live
    (c.self.invariant (ap (λ (p : Planned). p.live) is ∙ c.requires.live)))

-- each task's cell is one, as the search knows of its site
pub returns-clause-below : goal.returns-clause-below
returns-clause-below c =
    let is = c.self.view_is in
    subst (λ (p : Planned). All (PartBelow (length p.terms)) c.self.inside.search.site.net.now.parts) is
    (c.self.invariant (ap (λ (p : Planned). p.live) is ∙ c.requires.live)).site.node.network
