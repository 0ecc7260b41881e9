use Rattle.std.proofs.Common.{FitsSigned, rules, subst}
use Rattle.std.specs.Int.{w64}
use Rattle.std.proofs.lemmas.Int.{to_z-of_z}
use Rattle.hp_cells.specs.Cells.{LooksUp}
use Rattle.hp_syntax.specs.Terms.{Number}
use Rattle.hp_syntax.specs.ViewLaws.{pattern_of-var, pattern_of-sym, pattern_of-num}
use Rattle.hp_syntax.specs.Views.{pattern_of}
use Rattle.hp_eval.specs.Slotted.{bindings_of}
use Rattle.hp_suspended.proofs.SimpleCells.{number_cell, symbol_cell, variable_cell}
use Rattle.hp_suspended.proofs.simple.cell_of.Goals as goal

pub returns-in-Var : goal.returns-in-Var
returns-in-Var c =
    let p = c.args.part.now in
    variable_cell c.args.cells.now c.args.slots.now c.requires.slots (pattern_of p) p.span c.in-Var.v
    (pattern_of-var p c.in-Var.v c.in-Var.is) c.value_of.result c.value_of.ensures

pub returns-in-Sym : goal.returns-in-Sym
returns-in-Sym c =
    let p = c.args.part.now in
    symbol_cell c.args.cells.now (bindings_of c.args.cells.now c.args.slots.now) (pattern_of p) p.span c.in-Sym.name
    (pattern_of-sym p c.in-Sym.name c.in-Sym.is) c.find_sym.result c.find_sym.ensures

pub returns-in-Num : goal.returns-in-Num
returns-in-Num c =
    let p = c.args.part.now in
    let terms = c.args.cells.now in
    let fits : FitsSigned w64 c.in-Num.n = search rules in
    number_cell terms (bindings_of terms c.args.slots.now) (pattern_of p) p.span c.in-Num.n
    (pattern_of-num p c.in-Num.n c.in-Num.is) c.find_num.result
    (subst (λ n. LooksUp (Number n) terms c.find_num.result) (to_z-of_z w64 c.in-Num.n fits) c.find_num.ensures)
