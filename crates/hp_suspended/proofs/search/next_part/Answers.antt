use Rattle.std.proofs.Common.{ap, ◌∙◌}
use Rattle.hp_nodes.specs.NodeViews.{laid_of}
use Rattle.hp_suspended.specs.SceneViews.{code_in}
use Rattle.hp_suspended.specs.Views.{view}
use Rattle.hp_suspended.proofs.StandingNodes.{one_there}
use Rattle.hp_suspended.proofs.Shapes.{view_fresh}
use Rattle.hp_suspended.proofs.search.next_part.Goals as goal

pub returns-clause-here : goal.returns-clause-here
returns-clause-here c = ap view c.put.ensures ∙ view_fresh c.args.mark c.args.nest c.args.next.now

pub returns-clause-next : goal.returns-clause-next
returns-clause-next c =
    λ l h. one_there (code_in c.args.scene.now).nodes c.args.next.now (laid_of c.node_at.result.now) l
    c.node_at.ensures.is h
