use Rattle.std.proofs.Common.{◌≤◌, length}
use Rattle.hp_world.specs.Recorded.{Knows}
use Rattle.hp_world.specs.Stages.{StageBelow}
use Rattle.hp_part_trials.proofs.look_ups.large.replaced.Given as goal

abbrev pub invariant-loop-round : goal.invariant-loop-round
invariant-loop-round l =
    record { knows : Knows l.cells l.world; below : StageBelow (length l.cells) l.world.now; few : l.found ≤ l.round }
