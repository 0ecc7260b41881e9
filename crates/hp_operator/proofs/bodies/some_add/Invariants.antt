use Rattle.std.proofs.Common.{◌≡◌, drop, map}
use Rattle.hp_nodes.specs.NodeViews.{laid_of}
use Rattle.hp_operator.specs.Changed.{any_adds}
use Rattle.hp_operator.proofs.bodies.some_add.Given as goal

abbrev pub invariant-loop-node : goal.invariant-loop-node
invariant-loop-node l = any_adds (map laid_of l.nodes) ≡ any_adds (map laid_of (drop l.node-index l.nodes))
