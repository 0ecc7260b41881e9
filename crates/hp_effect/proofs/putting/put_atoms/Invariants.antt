use Rattle.std.proofs.Common.{drop}
use Rattle.hp_eval.specs.Growth.{Grows}
use Rattle.hp_eval.specs.Slotted.{bindings_of}
use Rattle.hp_world.specs.Stages.{changes_of}
use Rattle.hp_effect.proofs.GatheringLemmas.{Along, atoms_going}
use Rattle.hp_effect.proofs.putting.put_atoms.Given as goal

abbrev pub invariant-loop-atom : goal.invariant-loop-atom
invariant-loop-atom l =
    let e = bindings_of l.fn.cells l.slots in
    record {
      grows : Grows l.fn.cells l.cells;
      along : Along l.side (atoms_going e l.atoms) (atoms_going e (drop l.atom-index l.atoms)) l.cells
          (changes_of l.fn.cells l.fn.changes) l.changes;
    }
