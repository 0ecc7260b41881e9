use Rattle.std.proofs.Common.{◌≡◌, ◌++◌, drop}
use Rattle.hp_syntax.specs.Views.{task_list_of}
use Rattle.hp_syntax.specs.Written as written
use Rattle.hp_syntax.specs.Written.{rest_text}
use Rattle.hp_print.proofs.tasks.+tasks.Given as goal

abbrev pub invariant-push_task_list-loop-part : goal.invariant-push_task_list-loop-part
invariant-push_task_list-loop-part l =
    l.text.items ++ rest_text (written.task_list l.vars (task_list_of (drop l.part-index l.parts)))
    ≡ l.fn.text.items ++ rest_text (written.task_list l.vars (task_list_of l.parts))
