use Rattle.std.proofs.Common.{true, map, refl, ◌∙◌}
use Rattle.std.specs.List.{flat_map}
use Rattle.hp_syntax.specs.Notes.{pair_atoms, note_if_unserved}
use Rattle.hp_syntax.specs.Views.{pair_of}
use Rattle.hp_check.proofs.SurveySteps.{noted_on}
use Rattle.hp_check.proofs.survey.Survey.pairs.Goals as goal

pub loop-pair-preserved : goal.loop-pair-preserved
loop-pair-preserved c =
    let same = c.loop-pair.invariant.1 in (
      noted_on (note_if_unserved c.args.self.now.served.keys true)
          (λ ps. flat_map pair_atoms (map pair_of ps)) (λ p. pair_atoms (pair_of p)) c.args.pairs.now
          c.loop-pair.pair-index c.pair-item.result _ _ _ (λ y ys. refl) c.loop-pair-test.true c.pair-item.is
          c.loop-pair.invariant.0 (rw same at c.in_ok-tasks.ensures.noted),
      c.in_ok-tasks.ensures.served ∙ same,
    )
