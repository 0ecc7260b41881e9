use Rattle.std.proofs.Common.{◌≡◌, ◌≤◌, ℕ, List, length, ap, sym, subst, ◌∙◌}
use Rattle.std.proofs.lemmas.Option.{same_Some}
use Rattle.hp_nodes.specs.NodeViews.{laid_of}
use Rattle.hp_nodes.specs.Trees.{Laid}
use Rattle.hp_suspended.specs.SceneViews.{code_in}
use Rattle.hp_operator.specs.Bodies.{ChangesEach}
use Rattle.hp_operator.proofs.BodyLemmas.{each_nodes}
use Rattle.hp_operator.proofs.ChangedNodes.{between}
use Rattle.hp_operator.proofs.bodies.changed_below.Goals as goal

pub node_at-requires : goal.node_at-requires
node_at-requires c =
    let s = c.args.scene.now in (each_nodes (code_in s) s.code.now.kept c.args.node c.args.end c.requires).inside

pub nodes_between-requires-clause-order : goal.nodes_between-requires-clause-order
nodes_between-requires-clause-order c =
    let s = c.args.scene.now in
    let e = each_nodes (code_in s) s.code.now.kept c.args.node c.args.end c.requires in
    let same = same_Some e.node (laid_of c.node_at.result.now) (sym e.there ∙ c.node_at.ensures.is) in
    subst (λ (l : Laid). l.to ≤ c.args.end) same e.order

pub nodes_between-requires-clause-within : goal.nodes_between-requires-clause-within
nodes_between-requires-clause-within c =
    let s = c.args.scene.now in (each_nodes (code_in s) s.code.now.kept c.args.node c.args.end c.requires).within

pub returns : goal.returns
returns c =
    let s = c.args.scene.now in
    let e = each_nodes (code_in s) s.code.now.kept c.args.node c.args.end c.requires in
    let same = same_Some e.node (laid_of c.node_at.result.now) (sym e.there ∙ c.node_at.ensures.is) in
    let nodes = ap (λ (l : Laid). between (code_in s).nodes l.to c.args.end) same ∙ sym c.nodes_between.ensures in
    subst (ChangesEach (code_in s) c.args.node c.args.end) nodes e.changes
