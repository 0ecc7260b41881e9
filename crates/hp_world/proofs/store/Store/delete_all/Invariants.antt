use Rattle.std.proofs.Common.{◌≡◌, [], drop, length}
use Rattle.std.specs.List.{AllZip}
use Rattle.hp_world.specs.Keyed.{Learns, Nothing}
use Rattle.hp_world.specs.Deleting.{deleted}
use Rattle.hp_world.specs.Stages.{live_atoms}
use Rattle.hp_world.specs.Undoing.{Moves}
use Rattle.hp_world.proofs.store.Store.delete_all.Given as goal

abbrev pub invariant-loop-atom : goal.invariant-loop-atom
invariant-loop-atom l = record {
  atoms : deleted (live_atoms l.self.places.places) (drop l.atom-index l.atoms)
      ≡ deleted (live_atoms l.initial.self.places.places) l.atoms;
  guards : l.self.guards ≡ l.initial.self.guards;
  places : length l.self.places.places ≡ length l.initial.self.places.places;
  parts : AllZip (Learns Nothing [] 0) l.initial.self.parts.items l.self.parts.items;
  moves : Moves l.atom-index [] l.initial.self l.self;
}
