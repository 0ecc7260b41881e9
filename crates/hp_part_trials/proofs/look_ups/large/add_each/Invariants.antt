use Rattle.std.proofs.Common.{length}
use Rattle.hp_world.specs.Recorded.{Knows}
use Rattle.hp_world.specs.Stages.{StageBelow}
use Rattle.hp_part_trials.proofs.look_ups.large.add_each.Given as goal

abbrev pub invariant-loop-atom : goal.invariant-loop-atom
invariant-loop-atom l = record { knows : Knows l.cells l.world; below : StageBelow (length l.cells) l.world.now }
