use Rattle.hp_world.specs.Recorded.{Knows}
use Rattle.hp_part_trials.proofs.look_ups.satisfiers.compare_all.Given as goal

abbrev pub invariant-loop-rule : goal.invariant-loop-rule
invariant-loop-rule l = Knows l.cells l.scene.world
