use Rattle.std.proofs.Common.{◌≡◌, ◌++◌, drop, map}
use Rattle.std.specs.List.{flat_map}
use Rattle.hp_syntax.specs.Views.{rule_of}
use Rattle.hp_doctor.specs.Texts.{texts_of}
use Rattle.hp_doctor_why.specs.Said.{axiom_text}
use Rattle.hp_doctor_why.specs.declared.phrases.TheConstants.{CONCLUDES}
use Rattle.hp_doctor_why.proofs.axioms.push_axioms.Given as goal

abbrev pub invariant-loop-rule : goal.invariant-loop-rule
invariant-loop-rule l =
    let text = axiom_text (texts_of l.files) CONCLUDES.now l.name in
    l.out.items ++ flat_map text (map rule_of (drop l.rule-index l.rules))
    ≡ l.fn.out.items ++ flat_map text (map rule_of l.rules)
