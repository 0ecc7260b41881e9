use Rattle.std.proofs.Common.{sym, ap, ◌∙◌}
use Rattle.hp_syntax.specs.ViewLaws.{expression_of-atom, expression_of-and, expression_of-or, expression_of-not, expression_of-forall, expression_of-assign, expression_of-call}
use Rattle.hp_syntax.specs.Views.{expression_of}
use Rattle.hp_blame.specs.Patterns.{in_part, in_simple}
use Rattle.hp_blame.proofs.patterns.in_part.Goals as goal

pub returns-in-Atom : goal.returns-in-Atom
returns-in-Atom c =
    c.in_atom.ensures
    ∙ sym (ap (in_part c.args.span) (expression_of-atom c.args.part.now _ c.in-Atom.is))

pub returns-in-And : goal.returns-in-And
returns-in-And c =
    sym (ap (in_part c.args.span) (expression_of-and c.args.part.now _ c.in-And.is))

pub returns-in-Or : goal.returns-in-Or
returns-in-Or c =
    sym (ap (in_part c.args.span) (expression_of-or c.args.part.now _ c.in-Or.is))

pub returns-in-Not : goal.returns-in-Not
returns-in-Not c =
    c.in_simple.ensures
    ∙ ap (λ e. in_simple c.args.span (expression_of e)) c.deref.ensures
    ∙ sym (ap (in_part c.args.span) (expression_of-not c.args.part.now _ c.in-Not.is))

pub returns-in-Forall : goal.returns-in-Forall
returns-in-Forall c =
    sym (ap (in_part c.args.span) (expression_of-forall c.args.part.now _ _ _ c.in-Forall.is))

pub returns-in-Assign : goal.returns-in-Assign
returns-in-Assign c =
    c.pattern_at.ensures
    ∙ sym (ap (in_part c.args.span) (expression_of-assign c.args.part.now _ _ c.in-Assign.is))

pub returns-in-Call : goal.returns-in-Call
returns-in-Call c =
    c.pattern_at-in-Call.ensures
    ∙ sym (ap (in_part c.args.span) (expression_of-call c.args.part.now _ c.in-Call.is))
