use Rattle.std.proofs.Common.{◌≡◌, drop}
use Rattle.hp_syntax.specs.Views.{task_list_of}
use Rattle.hp_blame.specs.Patterns.{in_task_list}
use Rattle.hp_blame.proofs.patterns.+tasks.Given as goal

abbrev pub invariant-in_task_list-loop-tasks : goal.invariant-in_task_list-loop-tasks
invariant-in_task_list-loop-tasks l =
    in_task_list l.span (task_list_of (drop l.tasks-index l.list)) ≡ in_task_list l.span (task_list_of l.list)
