-- The expression of an operator is two nodes after its own, that of a method's branch two nodes after the branch's, and
-- that of an axiom's branch right after it.
use Rattle.std.proofs.Common.{◌+◌, ap, ◌∙◌, arith}
use Rattle.hp_syntax.specs.Views.{atom_of}
use Rattle.hp_nodes.specs.NodeViews.{laid_of, operation_of}
use Rattle.hp_code.specs.Codes.{code_of}
use Rattle.hp_suspended.specs.Nodes.{expression_at}
use Rattle.hp_choice.proofs.RuleReadings.{rule_within}
use Rattle.hp_unmet.proofs.PreconditionSteps.{behind_branch, behind_clause, behind_rule, few_nodes, no_axiom, no_method}
use Rattle.hp_unmet.proofs.nodes.expression_node.Goals as goal

pub node_at-requires : goal.node_at-requires
node_at-requires c =
    let h = c.requires.has.1 in
    rule_within (code_of c.args.code.now) c.args.code.now.kept c.args.spot.node h.rule h.is

pub overflow_add-result : goal.overflow_add-result
overflow_add-result c =
    let code = code_of c.args.code.now in
    let b = behind_branch code c.args.code.now.kept c.args.spot.node c.args.spot.branch (laid_of c.node_at.result.now)
    c.requires.has.0 c.node_at.ensures.is c.requires.has.1 (atom_of c.in-Method.field-0) (ap operation_of c.in-Method.is) in
    omega (arith, b.inside, c.requires.at, few_nodes c.args.code.now)

pub returns-in-Method : goal.returns-in-Method
returns-in-Method c = λ p h.
    let code = code_of c.args.code.now in
    let b = behind_branch code c.args.code.now.kept c.args.spot.node c.args.spot.branch (laid_of c.node_at.result.now) p
    c.node_at.ensures.is h (atom_of c.in-Method.field-0) (ap operation_of c.in-Method.is) in
    ap (λ i. expression_at code (i + 2)) c.requires.at ∙ b.is

pub overflow_add-result-in-Axiom : goal.overflow_add-result-in-Axiom
overflow_add-result-in-Axiom c =
    let code = code_of c.args.code.now in
    let b = behind_clause code c.args.code.now.kept c.args.spot.node c.args.spot.branch (laid_of c.node_at.result.now)
    c.requires.has.0 c.node_at.ensures.is c.requires.has.1 (atom_of c.in-Axiom.field-0) (ap operation_of c.in-Axiom.is) in
    omega (arith, b.inside, c.requires.at, few_nodes c.args.code.now)

pub returns-in-Axiom : goal.returns-in-Axiom
returns-in-Axiom c = λ p h.
    let code = code_of c.args.code.now in
    let b = behind_clause code c.args.code.now.kept c.args.spot.node c.args.spot.branch (laid_of c.node_at.result.now) p
    c.node_at.ensures.is h (atom_of c.in-Axiom.field-0) (ap operation_of c.in-Axiom.is) in
    ap (λ i. expression_at code (i + 1)) c.requires.at ∙ b.is

pub overflow_add-result-in_default : goal.overflow_add-result-in_default
overflow_add-result-in_default c =
    let b = behind_rule (code_of c.args.code.now) c.args.code.now.kept c.args.spot.node c.args.spot.branch
    (laid_of c.node_at.result.now) c.requires.has.0 c.node_at.ensures.is c.requires.has.1
    (no_method c.node_at.result.now.op c.in_default.not-Method)
    (no_axiom c.node_at.result.now.op c.in_default.not-Axiom) in
    omega (arith, b.inside, few_nodes c.args.code.now)

pub returns-in_default : goal.returns-in_default
returns-in_default c = λ p h.
    let b = behind_rule (code_of c.args.code.now) c.args.code.now.kept c.args.spot.node c.args.spot.branch
    (laid_of c.node_at.result.now) p c.node_at.ensures.is h
    (no_method c.node_at.result.now.op c.in_default.not-Method)
    (no_axiom c.node_at.result.now.op c.in_default.not-Axiom) in
    b.is
