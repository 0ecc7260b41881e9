use Rattle.std.proofs.Common.{◌≡◌, map, take}
use Rattle.hp_tables.specs.Tables.{places_in}
use Rattle.hp_nodes.specs.NodeViews.{laid_of}
use Rattle.hp_code.specs.CodeViews.{concluded_in}
use Rattle.hp_code.proofs.lowering.concluded_in.Given as goal

abbrev pub invariant-loop-node : goal.invariant-loop-node
invariant-loop-node l =
    l.all.items ≡ concluded_in (places_in l.axiom_rules) (map laid_of (take l.node-index l.nodes))
