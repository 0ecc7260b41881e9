use Rattle.hp_world.specs.Recorded.{Knows}
use Rattle.hp_part_trials.proofs.look_ups.satisfiers.compare_levels.Given as goal

abbrev pub invariant-loop-level : goal.invariant-loop-level
invariant-loop-level l = Knows l.cells l.scene.world
