use Rattle.std.proofs.Common.{◌-◌, ◌≤◌, length}
use Rattle.hp_world.specs.Named.{IsNamedWithAt}
use Rattle.hp_world.proofs.TurnLemmas.{IsFree}
use Rattle.hp_world.proofs.world.World.next_among_named.Given as goal

abbrev pub invariant-loop-named : goal.invariant-loop-named
invariant-loop-named l = record {
  on : l.fn.from ≤ l.named;
  none : IsFree (IsNamedWithAt l.cells l.name l.part l.argument l.self.now.places) l.fn.from l.named;
}

abbrev pub decreases-loop-named : goal.decreases-loop-named
decreases-loop-named l = length l.self.now.places - l.named
