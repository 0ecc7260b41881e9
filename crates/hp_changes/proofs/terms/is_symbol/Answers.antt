use Rattle.std.proofs.Common.{ap, sym, ◌∙◌}
use Rattle.hp_syntax.specs.Terms.{Symbol, same_term}
use Rattle.hp_changes.proofs.TermSteps.{list_of, number_of, symbol_of}
use Rattle.hp_changes.proofs.terms.is_symbol.Goals as goal

pub returns-in-Sym : goal.returns-in-Sym
returns-in-Sym c =
    c.eq.ensures ∙ sym (ap (same_term (Symbol c.args.name.now)) (symbol_of c.args.term.now c.in-Sym.own c.in-Sym.is))

pub returns-in-Num : goal.returns-in-Num
returns-in-Num c =
    sym (ap (same_term (Symbol c.args.name.now)) (number_of c.args.term.now c.in-Num.field-0 c.in-Num.is))

pub returns-in-List : goal.returns-in-List
returns-in-List c =
    sym (ap (same_term (Symbol c.args.name.now)) (list_of c.args.term.now c.in-List.field-0 c.in-List.is))
