use Rattle.std.proofs.Common.{refl}
use Rattle.std.specs.List.{flat_map}
use Rattle.hp_syntax.proofs.ListLemmas.{made_on}
use Rattle.hp_lint.specs.Serving.{on_task}
use Rattle.hp_lint.specs.LintViews.{accepts_atom, lent, lent_atoms}
use Rattle.hp_lint.proofs.serving.tell_tasks.Goals as goal

pub loop-task-preserved : goal.loop-task-preserved
loop-task-preserved c =
    made_on (λ ys. flat_map (on_task c.args.in_problem (accepts_atom c.args.heads.now)) (lent_atoms ys)) (λ y. on_task c.args.in_problem (accepts_atom c.args.heads.now) (lent y)) c.args.tasks.now c.loop-task.task-index
    c.task-item.result _ _ _ (λ y ys. refl) c.loop-task-test.true c.task-item.is c.loop-task.invariant
    c.in_ok-tell_task.ensures
