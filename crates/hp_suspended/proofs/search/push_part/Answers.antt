use Rattle.std.proofs.Common.{ap, ◌∙◌}
use Rattle.hp_nodes.specs.NodeViews.{laid_of}
use Rattle.hp_suspended.specs.SceneViews.{code_in}
use Rattle.hp_suspended.specs.Views.{view, views}
use Rattle.hp_suspended.specs.Views as names
use Rattle.hp_suspended.proofs.StandingNodes.{one_there}
use Rattle.hp_suspended.proofs.Shapes.{view_fresh}
use Rattle.hp_suspended.proofs.Stacks.{put_over, put_there, views_pushed}
use Rattle.hp_suspended.proofs.search.push_part.Goals as goal

pub returns-then-is_over-clause-outer : goal.returns-then-is_over-clause-outer
returns-then-is_over-clause-outer c =
    put_over c.mark-mark.result c.args.slots.now c.mark-mark.ensures (views c.args.outer.now.items) c.args.next.now
    (view c.args.here.now) c.is_over.result c.is_over.ensures c.if-is_over.true

pub returns-then-is_over-clause-here : goal.returns-then-is_over-clause-here
returns-then-is_over-clause-here c =
    c.next_part.ensures.here ∙ ap (λ m. names.Fresh m c.args.nest c.args.next.now) c.mark-mark.ensures

pub returns-clause-outer : goal.returns-clause-outer
returns-clause-outer c =
    views_pushed c.args.outer.now.items c.push.new.self.items c.args.next.now c.replace-part.result c.args.here.now
    c.in_ok-push.ensures.items c.replace-part.ensures.value
    ∙ put_there c.mark-mark.result c.args.slots.now c.mark-mark.ensures (views c.args.outer.now.items) c.args.next.now
    (view c.args.here.now) c.is_over.result c.is_over.ensures c.if-is_over.false

pub returns-clause-here : goal.returns-clause-here
returns-clause-here c =
    ap view c.replace-part.ensures.after ∙ view_fresh c.mark-mark.result c.args.nest c.args.next.now
    ∙ ap (λ m. names.Fresh m c.args.nest c.args.next.now) c.mark-mark.ensures

pub returns-clause-next : goal.returns-clause-next
returns-clause-next c =
    λ l h. one_there (code_in c.args.scene.now).nodes c.args.next.now (laid_of c.node_at.result.now) l
    c.node_at.ensures.is h
