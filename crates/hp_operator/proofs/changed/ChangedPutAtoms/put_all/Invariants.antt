use Rattle.std.proofs.Common.{drop, map}
use Rattle.hp_eval.specs.Growth.{Grows}
use Rattle.hp_eval.specs.Slotted.{bindings_of}
use Rattle.hp_nodes.specs.NodeViews.{laid_of}
use Rattle.hp_world.specs.Stages.{changes_of}
use Rattle.hp_effect.proofs.GatheringLemmas.{Along}
use Rattle.hp_operator.specs.Changed.{nodes_going}
use Rattle.hp_operator.proofs.changed.ChangedPutAtoms.put_all.Given as goal

abbrev pub invariant-loop-node : goal.invariant-loop-node
invariant-loop-node l =
    let e = bindings_of l.fn.cells l.slots in
    record {
      grows : Grows l.fn.cells l.cells;
      along : Along l.side (nodes_going e (map laid_of l.node-items)) (nodes_going e (map laid_of (drop l.node-index l.node-items)))
          l.cells (changes_of l.fn.cells l.fn.changes) l.changes;
    }
