use Rattle.std.proofs.Common.{sym, ap, ◌∙◌}
use Rattle.std.proofs.lemmas.Result.{IfOk-weaker}
use Rattle.hp_syntax.specs.Views.{expression_of}
use Rattle.hp_syntax.specs.ViewLaws.{expression_of-atom, expression_of-and, expression_of-or, expression_of-not, expression_of-forall, expression_of-assign, expression_of-call}
use Rattle.hp_doctor_why.specs.Filled.{negated_text, part_text}
use Rattle.hp_doctor_why.proofs.filled.part_text.Goals as goal

pub returns-in-Atom : goal.returns-in-Atom
returns-in-Atom c =
    IfOk-weaker c.atom_pat_text.result _ _
    (λ v h. h ∙ sym (ap (part_text c.args.names.now) (expression_of-atom c.args.part.now _ c.in-Atom.is)))
    c.atom_pat_text.ensures

pub returns-in-Not : goal.returns-in-Not
returns-in-Not c =
    IfOk-weaker c.negated_text.result _ _
    (λ v h. h ∙ ap (λ e. negated_text c.args.names.now (expression_of e)) c.deref.ensures
    ∙ sym (ap (part_text c.args.names.now) (expression_of-not c.args.part.now _ c.in-Not.is)))
    c.negated_text.ensures

pub returns-in-Call : goal.returns-in-Call
returns-in-Call c =
    IfOk-weaker c.pat_text.result _ _
    (λ v h. h ∙ sym (ap (part_text c.args.names.now) (expression_of-call c.args.part.now _ c.in-Call.is)))
    c.pat_text.ensures

pub returns-in-And : goal.returns-in-And
returns-in-And c =
    c.new.ensures.items ∙ sym (ap (part_text c.args.names.now) (expression_of-and c.args.part.now _ c.in-And.is))

pub returns-in-Or : goal.returns-in-Or
returns-in-Or c =
    c.new-in-Or.ensures.items ∙ sym (ap (part_text c.args.names.now) (expression_of-or c.args.part.now _ c.in-Or.is))

pub returns-in-Forall : goal.returns-in-Forall
returns-in-Forall c =
    c.new-in-Forall.ensures.items ∙ sym (ap (part_text c.args.names.now) (expression_of-forall c.args.part.now _ _ _ c.in-Forall.is))

pub returns-in-Assign : goal.returns-in-Assign
returns-in-Assign c =
    c.new-in-Assign.ensures.items ∙ sym (ap (part_text c.args.names.now) (expression_of-assign c.args.part.now _ _ c.in-Assign.is))
