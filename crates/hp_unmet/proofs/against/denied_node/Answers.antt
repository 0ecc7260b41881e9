use Rattle.std.proofs.Common.{arith}
use Rattle.hp_code.specs.Codes.{code_of}
use Rattle.hp_suspended.proofs.NodeReadings.{expression_within}
use Rattle.hp_unmet.proofs.ExpressionNodes.{denied_there, range_there}
use Rattle.hp_unmet.proofs.PreconditionSteps.{few_nodes}
use Rattle.hp_unmet.proofs.against.denied_node.Goals as goal

pub overflow_add-result : goal.overflow_add-result
overflow_add-result c =
    let within = expression_within (code_of c.args.code.now) c.args.node c.requires in
    omega (arith, within, few_nodes c.args.code.now)

pub returns-clause-denied : goal.returns-clause-denied
returns-clause-denied c = λ s p read.
    denied_there (code_of c.args.code.now) c.args.code.now.kept c.args.node s p read

pub returns-clause-range : goal.returns-clause-range
returns-clause-range c = λ s vars y z read.
    range_there (code_of c.args.code.now) c.args.code.now.kept c.args.node s vars y z read
