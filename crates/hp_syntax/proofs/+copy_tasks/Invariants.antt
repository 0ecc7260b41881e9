use Rattle.std.proofs.Common.{◌≡◌, take, map}
use Rattle.hp_syntax.specs.Views.{tasks_of}
use Rattle.hp_syntax.proofs.+copy_tasks.Given as goal

abbrev pub invariant-copies::copy_task_list-loop-part : goal.invariant-copies::copy_task_list-loop-part
invariant-copies::copy_task_list-loop-part l =
    map tasks_of l.copies.items ≡ map tasks_of (take l.part-index l.tasks)
