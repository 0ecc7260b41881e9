use Rattle.std.proofs.Common.{◌∙◌, ap, map}
use Rattle.std.specs.List.{filter, range_with_len}
use Rattle.std.proofs.lemmas.Result.{IfOk-weaker}
use Rattle.hp_nodes.specs.Asked.{all_asked, nothing_known}
use Rattle.hp_nodes.specs.Marks.{known_of, marked}
use Rattle.hp_nodes.specs.NodeViews.{laid_of}
use Rattle.hp_nodes.proofs.AskingLemmas.{node_more, nodes_all, parts_marked}
use Rattle.hp_nodes.proofs.asking.asked_by_nodes.Goals as goal

pub loop-node-preserved : goal.loop-node-preserved
loop-node-preserved c =
    let before = c.loop-node.asking in
    let after = c.come_to.new.self in
    node_more c.args.nodes.now c.loop-node.node-index c.node-item.result (known_of before) (known_of after)
    before.asked.items after.asked.items c.loop-node-test.true c.node-item.is c.in_ok-come_to.ensures.known
    c.in_ok-come_to.ensures.asked _ c.loop-node.invariant

pub returns : goal.returns
returns c =
    let nodes = c.args.nodes.now in
    let asking = c.loop-node.asking in
    let parts = range_with_len 0 9 in
    let all = nodes_all nodes c.loop-node.node-index (known_of asking) asking.asked.items _ c.loop-node-test.false
    c.loop-node.invariant in
    IfOk-weaker c.marked_parts.result _ _
    (λ w e. e ∙ ap (λ marks. filter (marked marks) parts) c.as_slice.ensures.value
    ∙ parts_marked (all_asked nothing_known (map laid_of nodes)) parts (marked asking.asked.items) all)
    c.marked_parts.ensures
