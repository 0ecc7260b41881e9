use Rattle.std.proofs.Common.{◌≡◌, ◌≤◌, vec_len}
use Rattle.hp_world.specs.Histories.{undone_to}
use Rattle.hp_links.specs.Undoing.{IsSound, history_of}
use Rattle.hp_links.proofs.store.Store.undo_to.Given as goal

abbrev pub invariant-loop-self : goal.invariant-loop-self
invariant-loop-self l = record {
  mark : l.mark ≤ vec_len l.self.trail;
  sound : IsSound l.self;
  back : undone_to l.mark (history_of l.self) ≡ undone_to l.mark (history_of l.initial.self);
}

abbrev pub decreases-loop-self : goal.decreases-loop-self
decreases-loop-self l = vec_len l.self.trail
