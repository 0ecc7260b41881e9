use Rattle.std.proofs.Common.{refl, ◌∙◌}
use Rattle.hp_syntax.specs.Notes.{task_atoms, task_list_atoms, note_if_unserved}
use Rattle.hp_syntax.specs.Views.{tasks_of, task_list_of}
use Rattle.hp_check.proofs.SurveySteps.{noted_on}
use Rattle.hp_check.proofs.survey.Survey.+tasks.Goals as goal

pub task_list-loop-part-preserved : goal.task_list-loop-part-preserved
unfolding task_atoms
task_list-loop-part-preserved t c =
    let same = c.loop-part.invariant.1 in (
      noted_on (note_if_unserved c.args.self.now.served.keys c.args.in_problem)
          (λ ts. task_list_atoms (task_list_of ts)) (λ t. task_atoms (tasks_of t)) c.args.parts.now
          c.loop-part.part-index c.part-item.result _ _ _ (λ y ys. refl) c.loop-part-test.true c.part-item.is
          c.loop-part.invariant.0 (rw same at c.in_ok-tasks.ensures.noted),
      c.in_ok-tasks.ensures.served ∙ same,
    )
