use Rattle.std.proofs.Common.{◌∙◌, ◌≢◌, arith, length, refl}
use Rattle.hp_syntax.specs.ViewLaws.{expression_of-and}
use Rattle.hp_terms.proofs.PartSteps.{gathered-many}
use Rattle.hp_conditions.proofs.preconditions.gathered.Goals as goal

pub returns-else-len-eq1 : goal.returns-else-len-eq1
returns-else-len-eq1 c =
    let many : length c.args.expressions.items ≢ 1 = omega (arith, c.args.expressions.ok.0) in
    expression_of-and _ c.args.expressions refl ∙ gathered-many c.args.span c.args.expressions.items many
