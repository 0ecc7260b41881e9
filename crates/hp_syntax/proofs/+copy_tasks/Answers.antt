use Rattle.std.proofs.Common.{ap, map, ◌∙◌}
use Rattle.hp_syntax.specs.Syntax as plain
use Rattle.hp_syntax.specs.ViewLaws.{tasks_of-task, tasks_of-ordered, tasks_of-unordered}
use Rattle.hp_syntax.specs.Views.{tasks_of, as_task_list}
use Rattle.hp_syntax.proofs.+copy_tasks.Goals as goal
use Rattle.hp_syntax.proofs.+copy_tasks.Goals.{tasks::NetPat::copy-in-Task+in_ok-copy-in-Task, tasks::NetPat::copy-in-Ordered+in_ok-copy_task_list-in-Ordered, tasks::NetPat::copy-in-Unordered+in_ok-copy_task_list-in-Unordered}

pub tasks::NetPat::copy-returns : goal.tasks::NetPat::copy-returns
tasks::NetPat::copy-returns t c = record {
  same = elim c.match-self.branch [
    | tasks::NetPat::copy-in-Task+in_ok-copy-in-Task w ↦
        let task = w.in-Task.task in
        rw (w.result-is, w.in-Task.is, tasks_of-task, tasks_of-task task)
        (ap (λ a. plain.Task a task.immediate) w.in_ok-copy-in-Task.ensures.same)
    | tasks::NetPat::copy-in-Ordered+in_ok-copy_task_list-in-Ordered w ↦
        rw (w.result-is, w.in-Ordered.is, tasks_of-ordered, tasks_of-ordered w.in-Ordered.parts)
        (ap (λ ts. plain.Ordered (as_task_list ts))
        (w.in_ok-copy_task_list-in-Ordered.ensures.same ∙ ap (map tasks_of) w.as_slice.ensures.value))
    | tasks::NetPat::copy-in-Unordered+in_ok-copy_task_list-in-Unordered w ↦
        rw (w.result-is, w.in-Unordered.is, tasks_of-unordered, tasks_of-unordered w.in-Unordered.parts)
        (ap (λ ts. plain.Unordered (as_task_list ts))
        (w.in_ok-copy_task_list-in-Unordered.ensures.same ∙ ap (map tasks_of) w.as_slice-in-Unordered.ensures.value))
  ];
}
