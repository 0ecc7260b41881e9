use Rattle.std.proofs.Common.{◌≡◌, ◌+◌, [], ◌++◌, take, vec_len}
use Rattle.hp_world.specs.Undoing.{Moves}
use Rattle.hp_world.proofs.store.Store.protect_all.Given as goal

abbrev pub invariant-loop-atom : goal.invariant-loop-atom
invariant-loop-atom l = record {
  guards : l.self.guards.items ≡ l.initial.self.guards.items ++ take l.atom-index l.atoms;
  more : vec_len l.self.guards ≡ vec_len l.initial.self.guards + l.atom-index;
  places : l.self.places ≡ l.initial.self.places;
  parts : l.self.parts ≡ l.initial.self.parts;
  moves : Moves l.atom-index [] l.initial.self l.self;
}
