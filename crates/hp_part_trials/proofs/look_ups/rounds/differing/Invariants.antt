use Rattle.std.proofs.Common.{◌≤◌}
use Rattle.hp_world.specs.Recorded.{Knows}
use Rattle.hp_part_trials.proofs.look_ups.rounds.differing.Given as goal

abbrev pub invariant-loop-round : goal.invariant-loop-round
invariant-loop-round l = record { knows : Knows l.cells l.world; few : l.differ ≤ l.round }
