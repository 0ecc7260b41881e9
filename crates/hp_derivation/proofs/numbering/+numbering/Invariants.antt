use Rattle.std.proofs.Common.{◌≡◌, ◌+◌, ◌≤◌, List, length, map, drop, vec_len, vec_capacity}
use Rattle.hp_syntax.specs.Networks.{And}
use Rattle.hp_syntax.specs.Terms.{Term}
use Rattle.hp_syntax.specs.Views.{tasks_of, task_list_of}
use Rattle.hp_eval.specs.GoalViews.{network_of}
use Rattle.hp_eval.specs.Growth.{Grows}
use Rattle.hp_eval.specs.Steps.{in_front}
use Rattle.hp_eval.proofs.Sizes.{tasks_size, task_list_size}
use Rattle.hp_derivation.specs.Numbering.{list_count, list_numbered}
use Rattle.hp_derivation.proofs.numbering.+numbering.Given as goal

abbrev pub decreases-numbered : goal.decreases-numbered
decreases-numbered l = tasks_size (tasks_of l.tasks.now)

abbrev pub decreases-numbered_parts : goal.decreases-numbered_parts
decreases-numbered_parts l = task_list_size (task_list_of l.parts.now)

abbrev pub invariant-numbered_parts-loop-part : goal.invariant-numbered_parts-loop-part
invariant-numbered_parts-loop-part l = record {
  grows : Grows l.fn.cells l.cells;
  room : (vec_len l.found ≡ l.part-index) × (length l.parts ≤ vec_capacity l.found);
  count : l.fn.next + list_count (task_list_of l.parts)
      ≡ l.next + list_count (task_list_of (drop l.part-index l.parts));
  so_far : (terms : List Term) → Grows l.cells terms → list_numbered l.fn.next (task_list_of l.parts)
      ≡ in_front And (map (network_of terms) l.found.items)
      (list_numbered l.next (task_list_of (drop l.part-index l.parts)));
}
