use Rattle.std.proofs.Common.{◌≡◌, ◌≤◌, take}
use Rattle.hp_world.specs.Stages.{AllBelow}
use Rattle.hp_world.proofs.places.Places.reserve.Given as goal

abbrev pub invariant-loop-atom : goal.invariant-loop-atom
invariant-loop-atom l = record {
  places : l.self.places ≡ l.initial.self.places;
  room : l.self.room ≡ l.initial.self.room;
  wider : l.initial.self.width ≤ l.self.width;
  width : AllBelow l.self.width (take l.atom-index l.atoms);
}
