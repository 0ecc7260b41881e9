use Rattle.std.proofs.Common.{◌≡◌, take, map}
use Rattle.hp_text.specs.Nodes.{node_of}
use Rattle.hp_text.proofs.+copy_node.Given as goal

abbrev pub invariant-copies::copy_nodes-loop-node : goal.invariant-copies::copy_nodes-loop-node
invariant-copies::copy_nodes-loop-node l = map node_of l.copies.items ≡ map node_of (take l.node-index l.nodes)
