use Rattle.std.proofs.Common.{◌≡◌, ◌≤◌, [], drop, vec_len}
use Rattle.hp_syntax.specs.Applying.{cancelled}
use Rattle.hp_world.specs.Stages.{same_cell}
use Rattle.hp_world.specs.Undoing.{Moves}
use Rattle.hp_world.proofs.store.Store.cancel_all.Given as goal

abbrev pub invariant-loop-atom : goal.invariant-loop-atom
invariant-loop-atom l = record {
  guards : cancelled same_cell l.self.guards.items (drop l.atom-index l.atoms)
      ≡ cancelled same_cell l.initial.self.guards.items l.atoms;
  places : l.self.places ≡ l.initial.self.places;
  parts : l.self.parts ≡ l.initial.self.parts;
  fewer : vec_len l.self.guards ≤ vec_len l.initial.self.guards;
  moves : Moves l.atom-index [] l.initial.self l.self;
}
