use Rattle.std.proofs.Common.{ap}
use Rattle.std.proofs.lemmas.Result.{IfOk-weaker}
use Rattle.hp_syntax.specs.Syntax.{Does, Refines}
use Rattle.hp_syntax.specs.Views.{method_of, operator_of}
use Rattle.hp_syntax.specs.Checks.{HasFewVariables}
use Rattle.hp_tree.specs.Children.{children_by}
use Rattle.hp_plain.specs.Candidates.{nest_at, own_node, place_at, rules_at, own_task}
use Rattle.hp_plain.proofs.CandidateSteps.{holds_there, chooses_operator, chooses_method, chooses_nothing}
use Rattle.hp_answers.proofs.RuleIndexLemmas.{rule_there, rule_missing}
use Rattle.hp_eval.proofs.GrowthLemmas.{grows_self}
use Rattle.hp_plain.proofs.candidate.Candidate.choice.Goals as goal

pub by_operator-requires-clause-few : goal.by_operator-requires-clause-few
by_operator-requires-clause-few c =
    let s = c.args.self.now in
    let at = c.in-Some-Operator.ensures.lookup in
    let o = c.in-Some-Operator.operator in
    let there = rule_there c.args.rule c.deref.ensures.value at.3.0 at.1 c.in-Some-Operator.field-0-is in
    holds_there HasFewVariables (rules_at s) c.args.rule (Does (operator_of o)) c.requires.candidate.few there

pub by_method-requires-clause-few : goal.by_method-requires-clause-few
by_method-requires-clause-few c =
    let s = c.args.self.now in
    let at = c.in-Some-Method.ensures.lookup in
    let m = c.in-Some-Method.method in
    let there = rule_there c.args.rule c.deref.ensures.value at.3.0 at.1 c.in-Some-Method.field-0-is in
    holds_there HasFewVariables (rules_at s) c.args.rule (Refines (method_of m)) c.requires.candidate.few there

pub returns-in_ok-found-in-Some-Operator-clause-chooses : goal.returns-in_ok-found-in-Some-Operator-clause-chooses
returns-in_ok-found-in-Some-Operator-clause-chooses c =
    let s = c.args.self.now in
    let at = c.in-Some-Operator.ensures.lookup in
    let o = c.in-Some-Operator.operator in
    let there = rule_there c.args.rule c.deref.ensures.value at.3.0 at.1 c.in-Some-Operator.field-0-is in
    chooses_operator c.args.cells.now c.by_operator.new.cells c.in_ok-found-in-Some-Operator.ensures.cells s
    c.requires.candidate c.args.rule (operator_of o) _ there c.in_ok-found-in-Some-Operator.ensures.finds

pub returns-in-Some-Method-clause-chooses : goal.returns-in-Some-Method-clause-chooses
returns-in-Some-Method-clause-chooses c =
    let s = c.args.self.now in
    let at = c.in-Some-Method.ensures.lookup in
    let m = c.in-Some-Method.method in
    let there = rule_there c.args.rule c.deref.ensures.value at.3.0 at.1 c.in-Some-Method.field-0-is in
    IfOk-weaker c.by_method.result _ _
    (λ x h. chooses_method c.args.cells.now c.by_method.new.cells c.by_method.ensures.cells s c.requires.candidate
    c.args.rule (method_of m) x there h)
    c.by_method.ensures.chooses

pub returns-in-Some-Axiom-clause-chooses : goal.returns-in-Some-Axiom-clause-chooses
returns-in-Some-Axiom-clause-chooses c =
    let s = c.args.self.now in
    let terms = c.args.cells.now in
    let at = c.in-Some-Axiom.ensures.lookup in
    let there = rule_there c.args.rule c.deref.ensures.value at.3.0 at.1 c.in-Some-Axiom.field-0-is in
    chooses_nothing terms s c.args.rule c.no_choice.result c.no_choice.ensures
    (ap (children_by (rules_at s) (nest_at s) (own_node terms s) (place_at s) (own_task terms s)) there)

pub returns-in-None-clause-chooses : goal.returns-in-None-clause-chooses
returns-in-None-clause-chooses c =
    let s = c.args.self.now in
    let terms = c.args.cells.now in
    let there = rule_missing c.args.rule c.deref.ensures.value c.in-None.ensures.lookup.3 in
    chooses_nothing terms s c.args.rule c.no_choice-in-None.result c.no_choice-in-None.ensures
    (ap (children_by (rules_at s) (nest_at s) (own_node terms s) (place_at s) (own_task terms s)) there)

pub returns-in-None-clause-cells : goal.returns-in-None-clause-cells
returns-in-None-clause-cells c = grows_self c.args.cells.now

pub returns-in-Some-Axiom-clause-cells : goal.returns-in-Some-Axiom-clause-cells
returns-in-Some-Axiom-clause-cells c = grows_self c.args.cells.now
