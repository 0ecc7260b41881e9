use Rattle.std.proofs.Common.{false, map, refl, ◌∙◌}
use Rattle.std.specs.List.{flat_map}
use Rattle.hp_syntax.specs.Notes.{branch_atoms, note_if_unserved}
use Rattle.hp_syntax.specs.Views.{branch_of}
use Rattle.hp_check.proofs.SurveySteps.{noted_on}
use Rattle.hp_check.proofs.survey.Survey.branches.Goals as goal

pub loop-branch-preserved : goal.loop-branch-preserved
loop-branch-preserved c =
    let same = c.loop-branch.invariant.1 in (
      noted_on (note_if_unserved c.args.self.now.served.keys false)
          (λ bs. flat_map branch_atoms (map branch_of bs)) (λ b. branch_atoms (branch_of b)) c.args.branches.now
          c.loop-branch.branch-index c.branch-item.result _ _ _ (λ y ys. refl) c.loop-branch-test.true c.branch-item.is
          c.loop-branch.invariant.0 (rw same at c.in_ok-tasks.ensures.noted),
      c.in_ok-tasks.ensures.served ∙ same,
    )
