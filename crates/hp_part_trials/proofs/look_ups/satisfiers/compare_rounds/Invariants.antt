use Rattle.hp_world.specs.Recorded.{Knows}
use Rattle.hp_part_trials.proofs.look_ups.satisfiers.compare_rounds.Given as goal

abbrev pub invariant-loop-round : goal.invariant-loop-round
invariant-loop-round l = Knows l.cells l.scene.world
