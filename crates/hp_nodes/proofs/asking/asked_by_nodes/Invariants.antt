use Rattle.std.proofs.Common.{◌≡◌, drop, map}
use Rattle.hp_nodes.specs.Asked.{all_asked, also, none, nothing_known}
use Rattle.hp_nodes.specs.Marks.{known_of, marked}
use Rattle.hp_nodes.specs.NodeViews.{laid_of}
use Rattle.hp_nodes.proofs.asking.asked_by_nodes.Given as goal

abbrev pub invariant-loop-node : goal.invariant-loop-node
invariant-loop-node l =
    also (all_asked (known_of l.asking) (map laid_of (drop l.node-index l.nodes))) (marked l.asking.asked.items)
    ≡ also (all_asked nothing_known (map laid_of l.nodes)) none
