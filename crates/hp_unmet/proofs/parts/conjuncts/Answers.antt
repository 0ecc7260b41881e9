use Rattle.std.proofs.Common.{map, refl, sym, ap, ◌∙◌}
use Rattle.hp_syntax.specs.ViewLaws.{expression_of-atom, expression_of-and, expression_of-or, expression_of-not, expression_of-forall, expression_of-assign, expression_of-call}
use Rattle.hp_syntax.specs.Views.{expression_of}
use Rattle.hp_unmet.specs.Conjunctions.{conjuncts}
use Rattle.hp_unmet.proofs.PartLemmas.{listed_back, only_part}
use Rattle.hp_unmet.proofs.parts.conjuncts.Goals as goal

pub returns-in-And : goal.returns-in-And
returns-in-And c =
    ap (map expression_of) c.as_slice.ensures.value
    ∙ (sym (listed_back (map expression_of c.in-And.parts.items))
    ∙ sym (ap conjuncts (expression_of-and c.args.body.now c.in-And.parts c.in-And.is)))

pub returns-in-Atom : goal.returns-in-Atom
returns-in-Atom c =
    ap (map expression_of) c.from_ref.ensures.value
    ∙ only_part _ _ (expression_of-atom c.args.body.now _ c.in-Atom.is) refl

pub returns-in-Or : goal.returns-in-Or
returns-in-Or c =
    ap (map expression_of) c.from_ref-in-Or.ensures.value
    ∙ only_part _ _ (expression_of-or c.args.body.now _ c.in-Or.is) refl

pub returns-in-Not : goal.returns-in-Not
returns-in-Not c =
    ap (map expression_of) c.from_ref-in-Not.ensures.value
    ∙ only_part _ _ (expression_of-not c.args.body.now _ c.in-Not.is) refl

pub returns-in-Forall : goal.returns-in-Forall
returns-in-Forall c =
    ap (map expression_of) c.from_ref-in-Forall.ensures.value
    ∙ only_part _ _ (expression_of-forall c.args.body.now _ _ _ c.in-Forall.is) refl

pub returns-in-Assign : goal.returns-in-Assign
returns-in-Assign c =
    ap (map expression_of) c.from_ref-in-Assign.ensures.value
    ∙ only_part _ _ (expression_of-assign c.args.body.now _ _ c.in-Assign.is) refl

pub returns-in-Call : goal.returns-in-Call
returns-in-Call c =
    ap (map expression_of) c.from_ref-in-Call.ensures.value
    ∙ only_part _ _ (expression_of-call c.args.body.now _ c.in-Call.is) refl
