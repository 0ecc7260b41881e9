use Rattle.std.proofs.Common.{cond, Some, None, sym, ap, ◌∙◌}
use Rattle.hp_syntax.specs.ViewLaws.{expression_of-atom, expression_of-and, expression_of-or, expression_of-not, expression_of-forall, expression_of-assign, expression_of-call}
use Rattle.hp_syntax.specs.Views.{atom_of}
use Rattle.hp_doctor_why.specs.Blamed.{source_in}
use Rattle.hp_doctor_why.proofs.blamed.source_in.Goals as goal

pub returns-in-Atom : goal.returns-in-Atom
returns-in-Atom c =
    sym (ap (source_in c.args.variable) (expression_of-atom c.args.part.now c.in-Atom.atom c.in-Atom.is)
    ∙ ap (λ b. cond b (Some (atom_of c.in-Atom.atom)) None) (sym c.atom_mentions.ensures ∙ c.if-atom_mentions.true))

pub returns-in-Atom-2 : goal.returns-in-Atom-2
returns-in-Atom-2 c =
    sym (ap (source_in c.args.variable) (expression_of-atom c.args.part.now c.in-Atom.atom c.in-Atom.is)
    ∙ ap (λ b. cond b (Some (atom_of c.in-Atom.atom)) None) (sym c.atom_mentions.ensures ∙ c.if-atom_mentions.false))

pub returns-in-And : goal.returns-in-And
returns-in-And c = sym (ap (source_in c.args.variable) (expression_of-and c.args.part.now _ c.in-And.is))

pub returns-in-Or : goal.returns-in-Or
returns-in-Or c = sym (ap (source_in c.args.variable) (expression_of-or c.args.part.now _ c.in-Or.is))

pub returns-in-Not : goal.returns-in-Not
returns-in-Not c = sym (ap (source_in c.args.variable) (expression_of-not c.args.part.now _ c.in-Not.is))

pub returns-in-Forall : goal.returns-in-Forall
returns-in-Forall c = sym (ap (source_in c.args.variable) (expression_of-forall c.args.part.now _ _ _ c.in-Forall.is))

pub returns-in-Assign : goal.returns-in-Assign
returns-in-Assign c = sym (ap (source_in c.args.variable) (expression_of-assign c.args.part.now _ _ c.in-Assign.is))

pub returns-in-Call : goal.returns-in-Call
returns-in-Call c = sym (ap (source_in c.args.variable) (expression_of-call c.args.part.now _ c.in-Call.is))
