use Rattle.std.proofs.Common.{refl, sym, ap, ◌∙◌}
use Rattle.hp_syntax.specs.Views.{expressions_of}
use Rattle.hp_syntax.specs.ViewLaws.{expression_of-atom, expression_of-and, expression_of-or, expression_of-not, expression_of-forall, expression_of-assign, expression_of-call}
use Rattle.hp_lint.specs.Branches.{always, all_always, any_always}
use Rattle.hp_lint.proofs.BranchLemmas.{all_on, not_all, any_on, one_does}
use Rattle.hp_lint.proofs.branches.+always.Goals as goal

pub always-returns-in-And : goal.always-returns-in-And
unfolding always
always-returns-in-And t c =
    rw (expression_of-and c.args.part.now c.in-And.parts c.in-And.is)
    (c.all_always.ensures ∙ ap (λ ps. all_always (expressions_of ps)) c.as_slice.ensures.value)

pub always-returns-in-Or : goal.always-returns-in-Or
unfolding always
always-returns-in-Or t c =
    rw (expression_of-or c.args.part.now c.in-Or.parts c.in-Or.is)
    (c.any_always.ensures ∙ ap (λ ps. any_always (expressions_of ps)) c.as_slice-in-Or.ensures.value)

pub always-returns-in-Atom : goal.always-returns-in-Atom
unfolding always
always-returns-in-Atom t c = rw (expression_of-atom c.args.part.now c.in-Atom.field-0 c.in-Atom.is) refl

pub always-returns-in-Not : goal.always-returns-in-Not
unfolding always
always-returns-in-Not t c = rw (expression_of-not c.args.part.now c.in-Not.field-0 c.in-Not.is) refl

pub always-returns-in-Forall : goal.always-returns-in-Forall
unfolding always
always-returns-in-Forall t c =
    rw (expression_of-forall c.args.part.now c.in-Forall.field-0 c.in-Forall.field-1 c.in-Forall.field-2 c.in-Forall.is) refl

pub always-returns-in-Assign : goal.always-returns-in-Assign
unfolding always
always-returns-in-Assign t c =
    rw (expression_of-assign c.args.part.now c.in-Assign.field-0 c.in-Assign.field-1 c.in-Assign.is) refl

pub always-returns-in-Call : goal.always-returns-in-Call
unfolding always
always-returns-in-Call t c = rw (expression_of-call c.args.part.now c.in-Call.field-0 c.in-Call.is) refl

pub all_always-loop-part-preserved : goal.all_always-loop-part-preserved
all_always-loop-part-preserved t c =
    all_on c.args.parts.now c.loop-part.part-index c.part-item.result _ c.loop-part-test.true c.part-item.is
    c.loop-part.invariant (sym c.always.ensures ∙ c.if-not-always.false)

pub all_always-returns-then-not-always : goal.all_always-returns-then-not-always
all_always-returns-then-not-always t c =
    not_all c.args.parts.now c.loop-part.part-index c.part-item.result _ c.loop-part-test.true c.part-item.is
    c.loop-part.invariant (sym c.always.ensures ∙ c.if-not-always.true)

pub any_always-loop-part-preserved : goal.any_always-loop-part-preserved
any_always-loop-part-preserved t c =
    any_on c.args.parts.now c.loop-part.part-index c.part-item.result _ c.loop-part-test.true c.part-item.is
    c.loop-part.invariant (sym c.always.ensures ∙ c.if-always.false)

pub any_always-returns-then-always : goal.any_always-returns-then-always
any_always-returns-then-always t c =
    one_does c.args.parts.now c.loop-part.part-index c.part-item.result _ c.loop-part-test.true c.part-item.is
    c.loop-part.invariant (sym c.always.ensures ∙ c.if-always.true)
