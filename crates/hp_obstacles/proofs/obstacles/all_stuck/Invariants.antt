use Rattle.std.proofs.Common.{◌≡◌, map}
use Rattle.hp_syntax.specs.GroundViews.{ground_of}
use Rattle.hp_syntax.specs.Views.{domain_of}
use Rattle.hp_unmet.specs.States.{InStateOf}
use Rattle.hp_obstacles.specs.Obstacles.{stuck_by, stuck_of}
use Rattle.hp_obstacles.proofs.obstacles.all_stuck.Given as goal

abbrev pub invariant-loop-task : goal.invariant-loop-task
invariant-loop-task l = record {
  so_far :
      InStateOf l.fn.walk (λ nest s. map stuck_of l.stuck.items
      ≡ map (stuck_by (domain_of l.domain).rules nest s) (map ground_of l.yielded));
  same : l.walk ≡ l.fn.walk;
}
