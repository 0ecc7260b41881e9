use Rattle.std.proofs.Common.{rules, inl, inr}
use Rattle.hp_syntax.specs.ViewLaws.{expression_of-atom, expression_of-and, expression_of-or, expression_of-not, expression_of-forall, expression_of-assign, expression_of-call}
use Rattle.hp_lint.proofs.Steps.{put_both, put_one_first}
use Rattle.std.proofs.Common.{refl}
use Rattle.hp_syntax.specs.Views.{expression_of, expressions_of}
use Rattle.hp_syntax.proofs.ListLemmas.{made_on}
use Rattle.hp_lint.specs.Variables.{expression_uses, expressions_uses}
use Rattle.hp_lint.proofs.uses.Uses.+expression.Goals as goal

pub expressions-loop-part-preserved : goal.expressions-loop-part-preserved
unfolding expression_uses
expressions-loop-part-preserved t c =
    made_on (λ ys. expressions_uses (expressions_of ys)) (λ y. expression_uses (expression_of y)) c.args.parts.now c.loop-part.part-index c.part-item.result
    _ _ _ (λ y ys. refl) c.loop-part-test.true c.part-item.is c.loop-part.invariant c.in_ok-expression.ensures

pub expression-returns-in-Atom : goal.expression-returns-in-Atom
unfolding expression_uses
expression-returns-in-Atom t c =
    rw (expression_of-atom c.args.part.now c.in-Atom.held c.in-Atom.is) (search rules)

pub expression-returns-in-Not : goal.expression-returns-in-Not
unfolding expression_uses
expression-returns-in-Not t c =
    rw (expression_of-not c.args.part.now c.in-Not.part c.in-Not.is) (search rules)

pub expression-returns-in-And : goal.expression-returns-in-And
unfolding expression_uses
expression-returns-in-And t c =
    elim c.in-And.is [
      | inl h ↦ rw (expression_of-and c.args.part.now c.in-And.parts h) (search rules)
      | inr h ↦ rw (expression_of-or c.args.part.now c.in-And.parts h) (search rules)
    ]

pub expression-returns-in_ok-expression-in-Forall : goal.expression-returns-in_ok-expression-in-Forall
unfolding expression_uses
expression-returns-in_ok-expression-in-Forall t c =
    rw (expression_of-forall c.args.part.now c.in-Forall.field-0 c.in-Forall.range c.in-Forall.body c.in-Forall.is)
    (search (rules, put_both))

pub expression-returns-in_ok-add-in-Assign : goal.expression-returns-in_ok-add-in-Assign
unfolding expression_uses
expression-returns-in_ok-add-in-Assign t c =
    rw (expression_of-assign c.args.part.now c.in-Assign.v c.in-Assign.value c.in-Assign.is)
    (search (rules, put_one_first))

pub expression-returns-in-Call : goal.expression-returns-in-Call
unfolding expression_uses
expression-returns-in-Call t c =
    rw (expression_of-call c.args.part.now c.in-Call.call c.in-Call.is) (search rules)
