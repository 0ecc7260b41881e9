use Rattle.std.proofs.Common.{Bor, refl, sym, ap, ◌∙◌}
use Rattle.std.specs.Prelude.{option_map}
use Rattle.std.proofs.lemmas.List.{at_drop_all}
use Rattle.hp_syntax.specs.declared.pattern.Pat.{Pat}
use Rattle.hp_syntax.specs.ViewLaws.{tasks_of-ordered, tasks_of-task, tasks_of-unordered}
use Rattle.hp_syntax.specs.Views.{pattern_of, task_list_of, tasks_of}
use Rattle.hp_blame.specs.Patterns.{in_task_list, in_tasks}
use Rattle.hp_blame.proofs.FirstLemmas.{none_here, some_here}
use Rattle.hp_blame.proofs.patterns.+tasks.Goals as goal

pub in_tasks-returns-in-Task : goal.in_tasks-returns-in-Task
unfolding in_tasks
in_tasks-returns-in-Task t c =
    c.in_atom.ensures ∙ sym (ap (in_tasks c.args.span) (ap tasks_of c.in-Task.is ∙ tasks_of-task c.in-Task.task))

pub in_tasks-returns-in-Ordered : goal.in_tasks-returns-in-Ordered
unfolding in_tasks
in_tasks-returns-in-Ordered t c =
    c.in_task_list.ensures
    ∙ (ap (λ ps. in_task_list c.args.span (task_list_of ps)) c.as_slice.ensures.value
    ∙ sym (ap (in_tasks c.args.span) (ap tasks_of c.in-Ordered.is ∙ tasks_of-ordered c.in-Ordered.parts)))

pub in_tasks-returns-in-Unordered : goal.in_tasks-returns-in-Unordered
unfolding in_tasks
in_tasks-returns-in-Unordered t c =
    c.in_task_list-in-Unordered.ensures
    ∙ (ap (λ ps. in_task_list c.args.span (task_list_of ps)) c.as_slice-in-Unordered.ensures.value
    ∙ sym (ap (in_tasks c.args.span) (ap tasks_of c.in-Unordered.is ∙ tasks_of-unordered c.in-Unordered.parts)))

pub in_task_list-returns-in-Some : goal.in_task_list-returns-in-Some
unfolding in_tasks
in_task_list-returns-in-Some t c =
    some_here (λ xs. in_task_list c.args.span (task_list_of xs)) (λ x. in_tasks c.args.span (tasks_of x)) (λ y ys. refl) c.args.list.now
    c.loop-tasks.tasks-index c.tasks-item.result c.loop-tasks-test.true c.tasks-item.is _ c.loop-tasks.invariant _
    (sym c.in_tasks.ensures ∙ ap (option_map (λ (p : Bor Pat). pattern_of p.now)) c.in-Some.is)

pub in_task_list-loop-tasks-preserved : goal.in_task_list-loop-tasks-preserved
unfolding in_tasks
in_task_list-loop-tasks-preserved t c =
    none_here (λ xs. in_task_list c.args.span (task_list_of xs)) (λ x. in_tasks c.args.span (tasks_of x)) (λ y ys. refl) c.args.list.now
    c.loop-tasks.tasks-index c.tasks-item.result c.loop-tasks-test.true c.tasks-item.is _ c.loop-tasks.invariant
    (sym c.in_tasks.ensures ∙ ap (option_map (λ (p : Bor Pat). pattern_of p.now)) c.in-None.is)

pub in_task_list-returns : goal.in_task_list-returns
unfolding in_tasks
in_task_list-returns t c =
    sym (at_drop_all (λ xs. in_task_list c.args.span (task_list_of xs)) c.args.list.now c.loop-tasks.tasks-index c.loop-tasks-test.false)
    ∙ c.loop-tasks.invariant
