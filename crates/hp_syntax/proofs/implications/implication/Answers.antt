use Rattle.std.proofs.Common.{refl}
use Rattle.hp_syntax.specs.declared.expression.ExprKind.TheVariants as exprs
use Rattle.hp_syntax.specs.ViewLaws.{expression_of-not, expression_of-or}
use Rattle.hp_syntax.proofs.implications.implication.Goals as goal

pub returns : goal.returns
returns c =
    let span = c.args.span in
    let not = c.in_ok-new.field-0 in
    let parts = c.in_ok-parts.parts in
    rw (
      expression_of-or (record { span = span; kind = exprs.Or parts }) parts refl,
      c.in_ok-parts.ensures.items,
      expression_of-not (record { span = span; kind = exprs.Not not }) not refl,
      c.in_ok-new.ensures.ok,
    ) refl
