use Rattle.std.proofs.Common.{refl, map}
use Rattle.std.specs.List.{flat_map}
use Rattle.hp_syntax.proofs.ListLemmas.{made_on}
use Rattle.hp_syntax.specs.Views.{rule_of}
use Rattle.hp_doctor.specs.Texts.{texts_of}
use Rattle.hp_doctor_why.specs.Said.{axiom_text}
use Rattle.hp_doctor_why.specs.declared.phrases.TheConstants.{CONCLUDES}
use Rattle.hp_doctor_why.proofs.axioms.push_axioms.Goals as goal

pub loop-rule-preserved : goal.loop-rule-preserved
loop-rule-preserved c =
    let text = axiom_text (texts_of c.args.files.now) CONCLUDES.now c.args.name.now in
    made_on (λ ys. flat_map text (map rule_of ys)) (λ y. text (rule_of y)) c.args.rules.now c.loop-rule.rule-index
    c.rule-item.result _ _ _ (λ y ys. refl) c.loop-rule-test.true c.rule-item.is c.loop-rule.invariant
    c.in_ok-push_axiom.ensures
