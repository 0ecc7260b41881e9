use Rattle.std.proofs.Common.{length, ap, sym, ◌∙◌, arith}
use Rattle.std.proofs.lemmas.List.{length-map}
use Rattle.std.proofs.lemmas.Option.{same_Some}
use Rattle.hp_nodes.specs.NodeViews.{laid_of}
use Rattle.hp_nodes.specs.Trees.{Laid}
use Rattle.hp_suspended.specs.SceneViews.{code_in}
use Rattle.hp_method.specs.Branches.{tasks_at}
use Rattle.hp_method.proofs.BranchNodes.{branch_nodes, there_is}
use Rattle.hp_method.proofs.chosen.parts.Goals as goal

pub overflow_add-pre : goal.overflow_add-pre
overflow_add-pre c =
    let s = c.args.scene.now in
    let b = there_is _ c.requires in
    let inside = (branch_nodes (code_in s) s.code.now.kept c.args.node b.0 b.1).inside in
    let long = ap length c.nodes-nodes.ensures in
    omega (arith, inside, c.nodes-nodes.type_inv, long, length-map c.nodes-nodes.result.now laid_of)

pub node_at-requires : goal.node_at-requires
node_at-requires c =
    let s = c.args.scene.now in
    let b = there_is _ c.requires in
    (branch_nodes (code_in s) s.code.now.kept c.args.node b.0 b.1).inside

pub returns : goal.returns
returns c = λ b e.
    let s = c.args.scene.now in
    let n = branch_nodes (code_in s) s.code.now.kept c.args.node b e in
    let same = same_Some n.node (laid_of c.node_at.result.now) (sym n.there ∙ c.node_at.ensures.is) in
    record {
      pre = n.precondition;
      tasks = ap (λ (l : Laid). tasks_at (code_in s) l.to) (sym same) ∙ n.tasks;
    }
