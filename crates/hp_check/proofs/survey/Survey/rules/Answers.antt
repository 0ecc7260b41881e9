use Rattle.std.proofs.Common.{false, map, refl, ◌∙◌}
use Rattle.std.specs.List.{flat_map}
use Rattle.hp_syntax.specs.Notes.{rule_atoms, note_if_unserved}
use Rattle.hp_syntax.specs.Views.{rule_of}
use Rattle.hp_check.proofs.SurveySteps.{noted_on}
use Rattle.hp_check.proofs.survey.Survey.rules.Goals as goal

pub loop-rule-preserved : goal.loop-rule-preserved
loop-rule-preserved c =
    let same = c.loop-rule.invariant.1 in (
      noted_on (note_if_unserved c.args.self.now.served.keys false)
          (λ rs. flat_map rule_atoms (map rule_of rs)) (λ r. rule_atoms (rule_of r)) c.args.rules.now
          c.loop-rule.rule-index c.rule-item.result _ _ _ (λ y ys. refl) c.loop-rule-test.true c.rule-item.is
          c.loop-rule.invariant.0 (rw same at c.in_ok-rule.ensures.noted),
      c.in_ok-rule.ensures.served ∙ same,
    )
