use Rattle.hp_syntax.specs.Values.{atom_value}
use Rattle.hp_syntax.specs.Views.{atom_of}
use Rattle.hp_eval.specs.Slotted.{bindings_of}
use Rattle.hp_effect.proofs.GatheringLemmas.{atom_gathered}
use Rattle.hp_effect.proofs.putting.put_atom.Goals as goal

pub returns-clause-puts : goal.returns-clause-puts
returns-clause-puts c =
    let old = c.args.cells.now in
    atom_gathered old c.put.new.cells c.put.ensures.cells c.args.changes.now c.requires.below c.args.side
    c.of_atoms.result (atom_value (atom_of c.args.atom.now) (bindings_of old c.args.slots.now)) c.put.new.self
    (c.put.ensures.below c.requires.below) c.of_atoms.ensures c.in_ok-put.ensures.puts
