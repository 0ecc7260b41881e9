use Rattle.std.proofs.Common.{ap, sym}
use Rattle.std.specs.Option.{option_and_then}
use Rattle.hp_syntax.specs.Events.{axiom_if}
use Rattle.hp_answers.proofs.RuleIndexLemmas.{rule_there, rule_missing}
use Rattle.hp_answers.proofs.rule_index.RuleIndex.axiom.Goals as goal

pub returns-in-Some-Axiom : goal.returns-in-Some-Axiom
returns-in-Some-Axiom c =
    let at = c.in-Some-Axiom.ensures.lookup in
    sym (ap (option_and_then axiom_if) (rule_there c.args.place c.deref.ensures.value at.3.0 at.1
    c.in-Some-Axiom.field-0-is))

pub returns-in-Some-Operator : goal.returns-in-Some-Operator
returns-in-Some-Operator c =
    let at = c.in-Some-Operator.ensures.lookup in
    sym (ap (option_and_then axiom_if) (rule_there c.args.place c.deref.ensures.value at.3.0 at.1
    c.in-Some-Operator.field-0-is))

pub returns-in-Some-Method : goal.returns-in-Some-Method
returns-in-Some-Method c =
    let at = c.in-Some-Method.ensures.lookup in
    sym (ap (option_and_then axiom_if) (rule_there c.args.place c.deref.ensures.value at.3.0 at.1
    c.in-Some-Method.field-0-is))

pub returns-in-None : goal.returns-in-None
returns-in-None c =
    sym (ap (option_and_then axiom_if) (rule_missing c.args.place c.deref.ensures.value c.in-None.ensures.lookup.3))
