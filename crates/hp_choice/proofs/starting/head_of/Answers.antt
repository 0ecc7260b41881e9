use Rattle.std.proofs.Common.{ap, sym, ◌∙◌}
use Rattle.hp_nodes.specs.NodeViews.{laid_of, operation_of}
use Rattle.hp_suspended.specs.SceneViews.{code_in}
use Rattle.hp_choice.proofs.FindingLemmas.{axiom_there, method_there, no_rule, operation_there, operator_there}
use Rattle.hp_choice.proofs.RuleReadings.{rule_node, rule_within}
use Rattle.hp_choice.proofs.starting.head_of.Goals as goal

pub node_at-requires : goal.node_at-requires
node_at-requires c =
    let s = c.args.scene.now in
    rule_within (code_in s) s.code.now.kept c.args.rule c.requires.0 c.requires.1

pub unreachable-requires : goal.unreachable-requires
unreachable-requires c =
    let s = c.args.scene.now in
    let l = laid_of c.node_at.result.now in
    no_rule c.node_at.result.now.op c.requires.0
    (operation_there (code_in s) c.args.rule l c.requires.0
    (rule_node (code_in s) s.code.now.kept c.args.rule l c.node_at.ensures.is c.requires.0 c.requires.1))
    c.in_default.not-Operator c.in_default.not-Method c.in_default.not-Axiom

pub returns-in-Operator : goal.returns-in-Operator
returns-in-Operator c = λ r found.
    let s = c.args.scene.now in
    let l = laid_of c.node_at.result.now in
    operator_there c.in-Operator.head r
    (sym (ap operation_of c.in-Operator.is)
    ∙ operation_there (code_in s) c.args.rule l r
    (rule_node (code_in s) s.code.now.kept c.args.rule l c.node_at.ensures.is r found))

pub returns-in-Method : goal.returns-in-Method
returns-in-Method c = λ r found.
    let s = c.args.scene.now in
    let l = laid_of c.node_at.result.now in
    method_there c.in-Method.head r
    (sym (ap operation_of c.in-Method.is)
    ∙ operation_there (code_in s) c.args.rule l r
    (rule_node (code_in s) s.code.now.kept c.args.rule l c.node_at.ensures.is r found))

pub returns-in-Axiom : goal.returns-in-Axiom
returns-in-Axiom c = λ r found.
    let s = c.args.scene.now in
    let l = laid_of c.node_at.result.now in
    axiom_there c.in-Axiom.head r
    (sym (ap operation_of c.in-Axiom.is)
    ∙ operation_there (code_in s) c.args.rule l r
    (rule_node (code_in s) s.code.now.kept c.args.rule l c.node_at.ensures.is r found))
