use Rattle.std.proofs.Common.{ap, map, ◌∙◌}
use Rattle.hp_nodes.specs.Laying.{with_end}
use Rattle.hp_nodes.specs.NodeViews.{laid_of}
use Rattle.hp_nodes.proofs.LayingLemmas.{with_end-map}
use Rattle.hp_nodes.proofs.laying.close_node.Goals as goal

pub returns : goal.returns
returns c =
    let nodes = c.args.nodes.now in
    with_end-map nodes.items c.args.at c.len-to.result c.index_mut.result.now c.requires c.index_mut.ensures.value
    ∙ ap (λ to. with_end c.args.at to (map laid_of nodes.items)) (c.len-to.ensures ∙ nodes.ok.0)
