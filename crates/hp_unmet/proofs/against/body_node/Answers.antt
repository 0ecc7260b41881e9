-- The second expression of a `forall` stands where the tree of the first ends.
use Rattle.std.proofs.Common.{ap, ◌∙◌}
use Rattle.hp_code.specs.Codes.{code_of}
use Rattle.hp_suspended.specs.Nodes.{expression_at}
use Rattle.hp_choice.specs.Asking.{past}
use Rattle.hp_unmet.proofs.ExpressionNodes.{body_there}
use Rattle.hp_unmet.proofs.against.body_node.Goals as goal

pub returns : goal.returns
returns c = λ s vars y z read.
    let code = code_of c.args.code.now in
    ap (expression_at code) (c.past.ensures ∙ ap (λ i. past code.nodes i 1) c.denied_node.ensures.is)
    ∙ body_there code c.args.code.now.kept c.args.node s vars y z read
