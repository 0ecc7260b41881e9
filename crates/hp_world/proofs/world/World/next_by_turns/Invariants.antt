use Rattle.std.proofs.Common.{◌-◌, ◌≤◌, length}
use Rattle.hp_world.specs.Named.{IsNamedWithAt}
use Rattle.hp_world.proofs.TurnLemmas.{IsFree}
use Rattle.hp_world.proofs.world.World.next_by_turns.Given as goal

abbrev pub invariant-loop-parted : goal.invariant-loop-parted
invariant-loop-parted l = record {
  on_parted : l.fn.from ≤ l.parted;
  on_named : l.fn.from ≤ l.named;
  none_parted : IsFree (IsNamedWithAt l.cells l.name l.part l.argument l.self.now.places) l.fn.from l.parted;
  none_named : IsFree (IsNamedWithAt l.cells l.name l.part l.argument l.self.now.places) l.fn.from l.named;
}

abbrev pub decreases-loop-parted : goal.decreases-loop-parted
decreases-loop-parted l = length l.self.now.places - l.parted
