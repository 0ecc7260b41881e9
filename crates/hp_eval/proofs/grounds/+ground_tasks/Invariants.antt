use Rattle.std.proofs.Common.{◌≡◌, ◌≤◌, length, map, drop, vec_len, vec_capacity}
use Rattle.hp_syntax.specs.GroundPatterns.{IsGroundTaskList, networks_said}
use Rattle.hp_syntax.specs.Networks.{And}
use Rattle.hp_syntax.specs.Views.{tasks_of, task_list_of}
use Rattle.hp_eval.specs.GoalViews.{network_of, TreesBelow}
use Rattle.hp_eval.specs.Growth.{Grows}
use Rattle.hp_eval.specs.Steps.{in_front}
use Rattle.hp_eval.proofs.Sizes.{tasks_size, task_list_size}
use Rattle.hp_eval.proofs.grounds.+ground_tasks.Given as goal

abbrev pub decreases-ground_tasks : goal.decreases-ground_tasks
decreases-ground_tasks l = tasks_size (tasks_of l.tasks.now)

abbrev pub decreases-ground_task_list : goal.decreases-ground_task_list
decreases-ground_task_list l = task_list_size (task_list_of l.tasks.now)

abbrev pub invariant-ground_task_list-loop-part : goal.invariant-ground_task_list-loop-part
invariant-ground_task_list-loop-part l = record {
  grows : Grows l.fn.cells l.cells;
  room : (vec_len l.found ≡ l.part-index) × (length l.tasks ≤ vec_capacity l.found);
  below : TreesBelow (length l.cells) l.found.items;
  left : IsGroundTaskList (task_list_of (drop l.part-index l.tasks));
  so_far : networks_said (task_list_of l.tasks)
      ≡ in_front And (map (network_of l.cells) l.found.items)
      (networks_said (task_list_of (drop l.part-index l.tasks)));
}
