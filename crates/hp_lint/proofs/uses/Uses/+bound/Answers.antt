use Rattle.std.proofs.Common.{rules, inl, inr}
use Rattle.hp_syntax.specs.ViewLaws.{expression_of-atom, expression_of-and, expression_of-or, expression_of-not, expression_of-forall, expression_of-assign, expression_of-call}
use Rattle.hp_lint.proofs.Steps.{nothing_more}
use Rattle.std.proofs.Common.{refl}
use Rattle.hp_syntax.specs.Views.{expression_of, expressions_of}
use Rattle.hp_syntax.proofs.ListLemmas.{made_on}
use Rattle.hp_lint.specs.Variables.{bound_in, bound_in_each}
use Rattle.hp_lint.proofs.uses.Uses.+bound.Goals as goal

pub bound_in_each-loop-part-preserved : goal.bound_in_each-loop-part-preserved
unfolding bound_in
bound_in_each-loop-part-preserved t c =
    made_on (λ ys. bound_in_each (expressions_of ys)) (λ y. bound_in (expression_of y)) c.args.parts.now c.loop-part.part-index c.part-item.result
    _ _ _ (λ y ys. refl) c.loop-part-test.true c.part-item.is c.loop-part.invariant c.in_ok-bound_in.ensures

pub bound_in-returns-in-Atom : goal.bound_in-returns-in-Atom
unfolding bound_in
bound_in-returns-in-Atom t c =
    rw (expression_of-atom c.args.part.now c.in-Atom.held c.in-Atom.is) (search rules)

pub bound_in-returns-in-And : goal.bound_in-returns-in-And
unfolding bound_in
bound_in-returns-in-And t c =
    elim c.in-And.is [
      | inl h ↦ rw (expression_of-and c.args.part.now c.in-And.parts h) (search rules)
      | inr h ↦ rw (expression_of-or c.args.part.now c.in-And.parts h) (search rules)
    ]

pub bound_in-returns-in-Assign : goal.bound_in-returns-in-Assign
unfolding bound_in
bound_in-returns-in-Assign t c =
    rw (expression_of-assign c.args.part.now c.in-Assign.v c.in-Assign.field-1 c.in-Assign.is) (search rules)

pub bound_in-returns-in-Not : goal.bound_in-returns-in-Not
unfolding bound_in
bound_in-returns-in-Not t c =
    rw (expression_of-not c.args.part.now c.in-Not.field-0 c.in-Not.is) (nothing_more c.args.self.now.list.items)

pub bound_in-returns-in-Forall : goal.bound_in-returns-in-Forall
unfolding bound_in
bound_in-returns-in-Forall t c =
    rw (expression_of-forall c.args.part.now c.in-Forall.field-0 c.in-Forall.field-1 c.in-Forall.field-2 c.in-Forall.is)
    (nothing_more c.args.self.now.list.items)

pub bound_in-returns-in-Call : goal.bound_in-returns-in-Call
unfolding bound_in
bound_in-returns-in-Call t c =
    rw (expression_of-call c.args.part.now c.in-Call.field-0 c.in-Call.is) (nothing_more c.args.self.now.list.items)
