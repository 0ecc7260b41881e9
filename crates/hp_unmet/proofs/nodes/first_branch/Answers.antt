-- The node of a rule is one of a code's nodes, which are fewer than an index can count.
use Rattle.std.proofs.Common.{arith}
use Rattle.hp_code.specs.Codes.{code_of}
use Rattle.hp_unmet.proofs.AskedRules.{node_within}
use Rattle.hp_unmet.proofs.PreconditionSteps.{few_nodes}
use Rattle.hp_unmet.proofs.nodes.first_branch.Goals as goal

pub overflow_add-result : goal.overflow_add-result
overflow_add-result c =
    let within =
    node_within c.requires.0 c.requires.1 (code_of c.args.code.now) c.args.node c.requires.2 c.args.code.now.kept in
    omega (arith, within, few_nodes c.args.code.now)
