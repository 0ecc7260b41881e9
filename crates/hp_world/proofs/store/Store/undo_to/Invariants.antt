use Rattle.std.proofs.Common.{◌≡◌, ◌≤◌, [], vec_len}
use Rattle.std.specs.List.{AllZip}
use Rattle.hp_world.specs.Keyed.{Learns, Nothing}
use Rattle.hp_world.specs.Histories.{undone_to}
use Rattle.hp_world.specs.Undoing.{IsSound, history_of}
use Rattle.hp_world.proofs.store.Store.undo_to.Given as goal

abbrev pub invariant-loop-self : goal.invariant-loop-self
invariant-loop-self l = record {
  mark : l.mark ≤ vec_len l.self.trail;
  sound : IsSound l.self;
  parts : AllZip (Learns Nothing [] 0) l.initial.self.parts.items l.self.parts.items;
  back : undone_to l.mark (history_of l.self) ≡ undone_to l.mark (history_of l.initial.self);
}

abbrev pub decreases-loop-self : goal.decreases-loop-self
decreases-loop-self l = vec_len l.self.trail
