use Rattle.std.proofs.Common.{arith}
use Rattle.hp_nodes.specs.NodeViews.{laid_of}
use Rattle.hp_eval.specs.declared.event.Event.TheVariants as events
use Rattle.hp_suspended.specs.SceneViews.{code_in}
use Rattle.hp_suspended.proofs.BeginSteps.{axiom_within}
use Rattle.hp_suspended.proofs.RuleSteps.{level_ahead, level_cut}
use Rattle.hp_suspended.proofs.Shapes.{view_one}
use Rattle.hp_suspended.proofs.StandingNodes.{one_there}
use Rattle.hp_suspended.proofs.begins.running_of.Goals as goal

pub node_at-requires : goal.node_at-requires
node_at-requires c = axiom_within (code_in c.args.scene.now) c.args.node c.requires

pub returns-then-nest-eq0 : goal.returns-then-nest-eq0
returns-then-nest-eq0 c = λ l there.
    let node = laid_of c.node_at.result.now in
    let start = c.mark-start.result in
    level_cut c.args.nest c.args.node node.to l.to start c.args.own _ (omega (arith, c.if-nest-eq0.true))
    c.mark-start.ensures (one_there (code_in c.args.scene.now).nodes c.args.node node l c.node_at.ensures.is there)
    (view_one start events.Cut)

pub returns : goal.returns
returns c = λ l there.
    let node = laid_of c.node_at.result.now in
    let start = c.mark-start.result in
    level_ahead c.args.nest c.args.node node.to l.to start c.args.own _ (omega (arith, c.if-nest-eq0.false))
    c.mark-start.ensures (one_there (code_in c.args.scene.now).nodes c.args.node node l c.node_at.ensures.is there)
    (view_one start events.End)
