-- The parts of a conjunction stand after its node, and another expression is its only part.
use Rattle.std.proofs.Common.{is_some, ap, arith}
use Rattle.hp_nodes.specs.NodeViews.{laid_of, operation_of}
use Rattle.hp_code.specs.Codes.{code_of}
use Rattle.hp_suspended.proofs.NodeReadings.{expression_within}
use Rattle.hp_unmet.proofs.ConjunctionNodes.{no_conjunction, part_alone, parts_after}
use Rattle.hp_unmet.proofs.PreconditionSteps.{few_nodes}
use Rattle.hp_unmet.proofs.nodes.parts_at.Goals as goal

pub node_at-own-requires : goal.node_at-own-requires
node_at-own-requires c =
    expression_within (code_of c.args.code.now) c.args.expression (ap is_some c.requires.1)

pub overflow_add-result : goal.overflow_add-result
overflow_add-result c =
    let within = expression_within (code_of c.args.code.now) c.args.expression (ap is_some c.requires.1) in
    omega (arith, within, few_nodes c.args.code.now)

pub returns-in-And-clause-parts : goal.returns-in-And-clause-parts
returns-in-And-clause-parts c = λ e read.
    parts_after (code_of c.args.code.now) c.args.code.now.kept c.args.expression e read
    (laid_of c.node_at-own.result.now) c.node_at-own.ensures.is (ap operation_of c.in-And.is)

pub returns-in_default-clause-parts : goal.returns-in_default-clause-parts
returns-in_default-clause-parts c = λ e read.
    part_alone (code_of c.args.code.now) c.args.code.now.kept c.args.expression e read
    (laid_of c.node_at-own.result.now) c.node_at-own.ensures.is
    (no_conjunction c.node_at-own.result.now.op c.in_default.not-And)
