use Rattle.std.proofs.Common.{◌-◌, List, drop, take, sym, ap, ◌∙◌}
use Rattle.std.specs.List.{drop-map, take-map}
use Rattle.hp_nodes.specs.NodeViews.{laid_of}
use Rattle.hp_nodes.specs.Trees.{Laid}
use Rattle.hp_operator.proofs.bodies.nodes_between.Goals as goal

pub returns : goal.returns
returns c =
    let many = c.args.end - c.args.first in
    let nodes = c.nodes-nodes.result.now in
    sym (take-map laid_of many (drop c.args.first nodes))
    ∙ ap (take many) (sym (drop-map laid_of c.args.first nodes))
    ∙ ap (λ (ls : List Laid). take many (drop c.args.first ls)) c.nodes-nodes.ensures
