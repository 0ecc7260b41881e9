use Rattle.std.proofs.Common.{FitsSigned, rules, ap, sym, ◌∙◌}
use Rattle.std.specs.Int.{w64}
use Rattle.hp_syntax.specs.Terms.{Number, same_term}
use Rattle.hp_changes.proofs.TermSteps.{list_of, number_of, same_numbers, symbol_of}
use Rattle.hp_changes.proofs.terms.is_number.Goals as goal

pub returns-in-Sym : goal.returns-in-Sym
returns-in-Sym c =
    sym (ap (same_term (Number c.args.n)) (symbol_of c.args.term.now c.in-Sym.field-0 c.in-Sym.is))

pub returns-in-Num : goal.returns-in-Num
returns-in-Num c =
    let fits : FitsSigned w64 c.in-Num.own = search rules in
    let own : FitsSigned w64 c.args.n = search rules in
    same_numbers c.args.n c.in-Num.own own fits
    ∙ sym (ap (same_term (Number c.args.n)) (number_of c.args.term.now c.in-Num.own c.in-Num.is))

pub returns-in-List : goal.returns-in-List
returns-in-List c =
    sym (ap (same_term (Number c.args.n)) (list_of c.args.term.now c.in-List.field-0 c.in-List.is))
