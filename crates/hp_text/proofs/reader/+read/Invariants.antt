use Rattle.std.proofs.Common.{◌≡◌, List, length, ◌-◌, ◌+◌, ◌*◌, ◌≤◌, ◌++◌, map}
use Rattle.hp_text.specs.declared.forest.Node.{Node}
use Rattle.hp_text.specs.Nodes.{node_of}
use Rattle.hp_text.specs.Places.{IsStop, AreRead}
use Rattle.hp_text.proofs.reader.+read.Given as goal

-- each list begins behind its opening bracket, and each function calls the next
abbrev pub decreases-nodes : goal.decreases-nodes
decreases-nodes l = 3 * (length l.bytes.now - l.from) + 2

abbrev pub decreases-node : goal.decreases-node
decreases-node l = 3 * (length l.bytes.now - l.from) + 1

abbrev pub decreases-list : goal.decreases-list
decreases-list l = 3 * (length l.bytes.now - l.from)

abbrev pub invariant-nodes-loop-end : goal.invariant-nodes-loop-end
invariant-nodes-loop-end l = record {
  begins : l.from ≤ l.end;
  stop : IsStop l.bytes l.end;
  count : l.others ≡ length l.initial.pending.items;
  gathered :
      (own : List Node) × ((l.pending.items ≡ l.initial.pending.items ++ own)
      × AreRead l.bytes l.from l.end (map node_of own));
}

abbrev pub decreases-nodes-loop-end : goal.decreases-nodes-loop-end
decreases-nodes-loop-end l = length l.bytes - l.end
