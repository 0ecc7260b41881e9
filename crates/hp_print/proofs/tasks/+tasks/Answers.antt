use Rattle.std.proofs.Common.{codes, arith, refl}
use Rattle.std.proofs.lemmas.Grind.{common_steps}
use Rattle.hp_syntax.specs.ViewLaws.{tasks_of-ordered, tasks_of-unordered}
use Rattle.hp_syntax.specs.Views.{tasks_of, task_list_of}
use Rattle.hp_syntax.specs.Written as written
use Rattle.hp_syntax.specs.Written.{tasks, node_text, rest_text}
use Rattle.hp_print.proofs.WrittenLists.{spaced_on, all_and_more}
use Rattle.hp_print.proofs.tasks.+tasks.Goals as goal

pub push_tasks-returns-in_ok-push_begun-in-Ordered : goal.push_tasks-returns-in_ok-push_begun-in-Ordered
unfolding tasks node_text
push_tasks-returns-in_ok-push_begun-in-Ordered t c =
    rw (c.in-Ordered.is, tasks_of-ordered c.in-Ordered.parts) (grind (arith, common_steps))

pub push_tasks-returns-in_ok-push_begun-in-Unordered : goal.push_tasks-returns-in_ok-push_begun-in-Unordered
unfolding tasks node_text
push_tasks-returns-in_ok-push_begun-in-Unordered t c =
    rw (c.in-Unordered.is, tasks_of-unordered c.in-Unordered.parts) (grind (arith, common_steps))

pub push_task_list-loop-part-preserved : goal.push_task_list-loop-part-preserved
unfolding tasks rest_text
push_task_list-loop-part-preserved t c =
    let vars = c.args.vars.now in
    spaced_on (λ ts. rest_text (written.task_list vars (task_list_of ts)))
    (λ t. node_text (written.tasks vars (tasks_of t))) c.args.parts.now c.loop-part.part-index c.part-item.result
    c.loop-part.text.items c.push.new.self.items _ _ (λ t ts. refl) c.loop-part-test.true c.part-item.is
    c.loop-part.invariant c.in_ok-push.ensures.items c.in_ok-push_tasks.ensures

pub push_task_list-returns : goal.push_task_list-returns
unfolding tasks rest_text
push_task_list-returns t c =
    all_and_more c.extend_from_slice.result (λ ts. rest_text (written.task_list c.args.vars.now (task_list_of ts)))
    c.args.parts.now c.loop-part.part-index c.loop-part.text.items _ _ c.loop-part-test.false c.loop-part.invariant
    (codes ")") refl c.extend_from_slice.ensures.items
