use Rattle.std.proofs.Common.{◌≡◌, ◌++◌, drop, map}
use Rattle.std.specs.List.{flat_map}
use Rattle.hp_lint.specs.Serving.{on_task}
use Rattle.hp_lint.specs.LintViews.{accepts_atom, lent_atoms, remark_of}
use Rattle.hp_lint.proofs.serving.tell_tasks.Given as goal

abbrev pub invariant-loop-task : goal.invariant-loop-task
invariant-loop-task l =
    map remark_of l.report.list.items ++ flat_map (on_task l.in_problem (accepts_atom l.heads)) (lent_atoms (drop l.task-index l.tasks))
    ≡ map remark_of l.fn.report.list.items ++ flat_map (on_task l.in_problem (accepts_atom l.heads)) (lent_atoms l.tasks)
