use Rattle.std.proofs.Common.{ap, sym, ◌∙◌, FitsSigned, rules}
use Rattle.std.specs.Int.{w64}
use Rattle.std.proofs.lemmas.Int.{to_z-of_z}
use Rattle.hp_syntax.specs.GroundViews.{ground_of, grounds_of}
use Rattle.hp_syntax.specs.Terms.{Listed, Number, same_term, same_terms}
use Rattle.hp_changes.proofs.TermSteps.{lengths_differ, list_of, number_of, symbol_of}
use Rattle.hp_changes.proofs.terms.+same.Goals as goal

pub are_same-returns-then-a-b : goal.are_same-returns-then-a-b
are_same-returns-then-a-b t c = lengths_differ c.args.a.now c.args.b.now (λ e. c.if-a-b.true e)

pub is_list_of-returns-in-Sym : goal.is_list_of-returns-in-Sym
is_list_of-returns-in-Sym t c =
    sym (ap (same_term (Listed (grounds_of c.args.parts.now))) (symbol_of c.args.term.now c.in-Sym.field-0 c.in-Sym.is))

pub is_list_of-returns-in-Num : goal.is_list_of-returns-in-Num
is_list_of-returns-in-Num t c =
    sym (ap (same_term (Listed (grounds_of c.args.parts.now))) (number_of c.args.term.now c.in-Num.field-0 c.in-Num.is))

pub is_list_of-returns-in-List : goal.is_list_of-returns-in-List
is_list_of-returns-in-List t c =
    c.are_same.ensures
    ∙ (ap (λ gs. same_terms (grounds_of c.args.parts.now) (grounds_of gs)) c.as_slice.ensures.value
    ∙ sym (ap (same_term (Listed (grounds_of c.args.parts.now))) (list_of c.args.term.now c.in-List.own c.in-List.is)))

pub is_same-returns-in-Sym : goal.is_same-returns-in-Sym
is_same-returns-in-Sym t c =
    c.is_symbol.ensures
    ∙ ap (λ x. same_term x (ground_of c.args.b.now)) (sym (symbol_of c.args.a.now c.in-Sym.name c.in-Sym.is))

pub is_same-returns-in-Num : goal.is_same-returns-in-Num
is_same-returns-in-Num t c =
    let fits : FitsSigned w64 c.in-Num.n = search rules in
    c.is_number.ensures
    ∙ ap (λ x. same_term x (ground_of c.args.b.now))
    (ap Number (to_z-of_z w64 c.in-Num.n fits) ∙ sym (number_of c.args.a.now c.in-Num.n c.in-Num.is))

pub is_same-returns-in-List : goal.is_same-returns-in-List
is_same-returns-in-List t c =
    c.is_list_of.ensures
    ∙ ap (λ x. same_term x (ground_of c.args.b.now))
    (ap (λ gs. Listed (grounds_of gs)) c.as_slice.ensures.value
    ∙ sym (list_of c.args.a.now c.in-List.parts c.in-List.is))
