use Rattle.std.proofs.Common.{◌≡◌, ◌≤◌, ◌+◌, ◌-◌, drop, length}
use Rattle.std.specs.List.{All, AllZip}
use Rattle.hp_syntax.specs.Applying.{with_added}
use Rattle.hp_world.specs.Keyed.{HasWaiting, Learns, RightFor}
use Rattle.hp_world.specs.Stages.{live_atoms, same_cell}
use Rattle.hp_world.specs.Undoing.{Moves}
use Rattle.hp_world.proofs.store.Store.add_all.Given as goal

abbrev pub invariant-loop-number : goal.invariant-loop-number
invariant-loop-number l = record {
  atoms : with_added same_cell (live_atoms l.self.places.places) (drop l.number l.atoms)
      ≡ with_added same_cell (live_atoms l.initial.self.places.places) l.atoms;
  guards : l.self.guards ≡ l.initial.self.guards;
  places : length l.self.places.places ≤ length l.initial.self.places.places + l.number;
  parts : AllZip (Learns (RightFor l.atoms) l.atoms l.number) l.initial.self.parts.items l.self.parts.items;
  waits : All (HasWaiting (length l.atoms) (length l.atoms - l.number)) l.self.parts.items;
  moves : Moves l.number l.atoms l.initial.self l.self;
}
