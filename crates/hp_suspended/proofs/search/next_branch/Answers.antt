use Rattle.std.proofs.Common.{refl, ap, ◌∙◌, ◌-◌, ◌+◌}
use Rattle.hp_nodes.specs.NodeViews.{laid_of}
use Rattle.hp_suspended.specs.SceneViews.{code_in}
use Rattle.hp_suspended.specs.Views.{view}
use Rattle.hp_suspended.proofs.StandingNodes.{one_there}
use Rattle.hp_suspended.proofs.Shapes.{view_fresh}
use Rattle.hp_suspended.proofs.search.next_branch.Goals as goal

pub returns-clause-same : goal.returns-clause-same
returns-clause-same c = record {
  head = refl;
  own = refl;
  start = refl;
  end = refl;
  here = ap view c.put.ensures ∙ view_fresh c.args.run.now.start (c.args.nest - 1) (c.args.run.now.next + 1);
}

pub returns-clause-next : goal.returns-clause-next
returns-clause-next c =
    λ l h. one_there (code_in c.args.scene.now).nodes c.args.run.now.next (laid_of c.node_at.result.now) l
    c.node_at.ensures.is h
