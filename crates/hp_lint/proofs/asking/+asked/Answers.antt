use Rattle.std.proofs.Common.{rules, inl, inr}
use Rattle.hp_syntax.specs.ViewLaws.{expression_of-atom, expression_of-and, expression_of-or, expression_of-not, expression_of-forall, expression_of-assign, expression_of-call}
use Rattle.hp_lint.proofs.Steps.{nothing_more, one_more, put_both}
use Rattle.std.proofs.Common.{refl}
use Rattle.hp_syntax.specs.Views.{expression_of, expressions_of}
use Rattle.hp_syntax.proofs.ListLemmas.{made_on}
use Rattle.hp_lint.specs.Asking.{asked_in, asked_in_each}
use Rattle.hp_lint.specs.LintViews.{lent_atoms}
use Rattle.hp_lint.proofs.asking.+asked.Goals as goal

pub asked_in_each-loop-part-preserved : goal.asked_in_each-loop-part-preserved
unfolding asked_in
asked_in_each-loop-part-preserved t c =
    made_on (λ ys. asked_in_each (expressions_of ys)) (λ y. asked_in (expression_of y)) c.args.parts.now c.loop-part.part-index c.part-item.result
    _ _ _ (λ y ys. refl) c.loop-part-test.true c.part-item.is c.loop-part.invariant c.in_ok-asked.ensures

pub asked-returns-in_ok-push-in-Atom : goal.asked-returns-in_ok-push-in-Atom
unfolding asked_in
asked-returns-in_ok-push-in-Atom t c =
    rw (expression_of-atom c.args.part.now c.in-Atom.held c.in-Atom.is)
    (one_more c.args.list.now.items _ _ c.in_ok-push-in-Atom.ensures.items)

pub asked-returns-in-Not : goal.asked-returns-in-Not
unfolding asked_in
asked-returns-in-Not t c =
    rw (expression_of-not c.args.part.now c.in-Not.part c.in-Not.is) (search rules)

pub asked-returns-in-And : goal.asked-returns-in-And
unfolding asked_in
asked-returns-in-And t c =
    elim c.in-And.is [
      | inl h ↦ rw (expression_of-and c.args.part.now c.in-And.parts h) (search rules)
      | inr h ↦ rw (expression_of-or c.args.part.now c.in-And.parts h) (search rules)
    ]

pub asked-returns-in_ok-asked-in-Forall : goal.asked-returns-in_ok-asked-in-Forall
unfolding asked_in
asked-returns-in_ok-asked-in-Forall t c =
    rw (expression_of-forall c.args.part.now c.in-Forall.field-0 c.in-Forall.range c.in-Forall.body c.in-Forall.is)
    (search (rules, put_both))

pub asked-returns-in-Assign : goal.asked-returns-in-Assign
unfolding asked_in
asked-returns-in-Assign t c =
    elim c.in-Assign.is [
      | inl h ↦ rw (expression_of-assign c.args.part.now h.0 h.1 h.2) (nothing_more (lent_atoms c.args.list.now.items))
      | inr h ↦ rw (expression_of-call c.args.part.now h.0 h.1) (nothing_more (lent_atoms c.args.list.now.items))
    ]

pub asked-returns-in-Assign-2 : goal.asked-returns-in-Assign-2
unfolding asked_in
asked-returns-in-Assign-2 t c =
    elim c.in-Assign.is [
      | inl h ↦ rw (expression_of-assign c.args.part.now h.0 h.1 h.2) (nothing_more (lent_atoms c.args.list.now.items))
      | inr h ↦ rw (expression_of-call c.args.part.now h.0 h.1) (nothing_more (lent_atoms c.args.list.now.items))
    ]
