use Rattle.std.proofs.Common.{◌≡◌, ◌≤◌, length, map, drop, vec_len, vec_capacity}
use Rattle.hp_syntax.specs.Networks.{And, task_list_value}
use Rattle.hp_syntax.specs.Views.{tasks_of, task_list_of}
use Rattle.hp_eval.specs.GoalViews.{network_of, TreesBelow}
use Rattle.hp_eval.specs.Growth.{Grows}
use Rattle.hp_eval.specs.Slotted.{bindings_of}
use Rattle.hp_eval.proofs.Loops.{behind}
use Rattle.hp_eval.proofs.Sizes.{tasks_size, task_list_size}
use Rattle.hp_eval.proofs.tasks.+tasks.Given as goal

abbrev pub decreases-tasks_value : goal.decreases-tasks_value
decreases-tasks_value l = tasks_size (tasks_of l.tasks.now)

abbrev pub decreases-task_list_value : goal.decreases-task_list_value
decreases-task_list_value l = task_list_size (task_list_of l.tasks.now)

abbrev pub invariant-task_list_value-loop-part : goal.invariant-task_list_value-loop-part
invariant-task_list_value-loop-part l = record {
  grows : Grows l.fn.cells l.cells;
  room : (vec_len l.found ≡ l.part-index) × (length l.tasks ≤ vec_capacity l.found);
  below : TreesBelow (length l.cells) l.found.items;
  so_far : task_list_value (task_list_of l.tasks) (bindings_of l.fn.cells l.slots)
      ≡ behind And (map (network_of l.cells) l.found.items)
      (task_list_value (task_list_of (drop l.part-index l.tasks)) (bindings_of l.fn.cells l.slots));
}
