use Rattle.std.proofs.Common.{refl}
use Rattle.hp_syntax.specs.Notes.{task_atoms, task_list_atoms}
use Rattle.hp_syntax.specs.Views.{task_list_of, tasks_of}
use Rattle.hp_syntax.proofs.ListLemmas.{made_on}
use Rattle.hp_lint.proofs.serving.+tasks.Goals as goal

pub task_list-loop-part-preserved : goal.task_list-loop-part-preserved
unfolding task_atoms
task_list-loop-part-preserved t c =
    made_on (λ ys. task_list_atoms (task_list_of ys)) (λ y. task_atoms (tasks_of y)) c.args.parts.now c.loop-part.part-index c.part-item.result
    _ _ _ (λ y ys. refl) c.loop-part-test.true c.part-item.is c.loop-part.invariant c.in_ok-tasks.ensures
