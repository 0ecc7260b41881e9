use Rattle.std.proofs.Common.{◌≡◌, ◌≤◌, length}
use Rattle.hp_eval.specs.Slotted.{undone}
use Rattle.hp_eval.proofs.slots.Slots.undo_to.Given as goal

abbrev pub invariant-loop-self : goal.invariant-loop-self
invariant-loop-self l = record {
  above : l.mark ≤ length l.self.trail;
  within : length l.self.trail ≤ length l.initial.self.trail;
  so_far : l.self ≡ undone (length l.self.trail) l.initial.self;
}

abbrev pub decreases-loop-self : goal.decreases-loop-self
decreases-loop-self l = length l.self.trail
