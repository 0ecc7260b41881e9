use Rattle.std.proofs.Common.{ap, sym, ◌∙◌, subst}
use Rattle.std.proofs.lemmas.Option.{slice_get_within}
use Rattle.std.proofs.lemmas.Result.{err_from_is_err_and}
use Rattle.hp_syntax.specs.Terms.{NoTerm}
use Rattle.hp_syntax.specs.Values.{on_ok, parts_of, tail_value, value_of_variable, bound}
use Rattle.hp_eval.specs.Slotted.{bindings_of}
use Rattle.hp_eval.specs.Steps.{GivesCell, GivesList}
use Rattle.hp_eval.proofs.CellViews.{at_named}
use Rattle.hp_eval.proofs.ValueSteps.{variable_gives}
use Rattle.hp_eval.proofs.values.tail_value.Goals as goal

pub list_or_fault-requires : goal.list_or_fault-requires
list_or_fault-requires c =
    let terms = c.args.cells.now in
    let s = c.args.slots.now in
    let tail = c.in-Some.tail in
    let g =
    subst (λ r. GivesCell r (value_of_variable tail.span (bound (bindings_of terms s) tail.var)) terms)
    (sym c.in_ok-cell-in-Some.ensures) (variable_gives terms s tail.var tail.span c.requires.slots) in
    record { cell = slice_get_within terms c.in_ok-cell-in-Some.cell g.0 g.2 }

pub returns-in-None : goal.returns-in-None
returns-in-None c = (
  NoTerm,
  ap (λ tail. tail_value tail (bindings_of c.args.cells.now c.args.slots.now)) c.in-None.is,
  c.nil.ensures.names,
)

pub returns-in_err-cell-in-Some : goal.returns-in_err-cell-in-Some
returns-in_err-cell-in-Some c =
    let p = err_from_is_err_and c.from_residual.result c.from_residual.ensures.1 in
    let terms = c.args.cells.now in
    let s = c.args.slots.now in
    let e = bindings_of terms s in
    let tail = c.in-Some.tail in
    let fault =
    subst (λ r. GivesCell r (value_of_variable tail.span (bound e tail.var)) terms)
    (sym c.in_err-cell-in-Some.ensures) (variable_gives terms s tail.var tail.span c.requires.slots) in
    rw (p.1, p.2) (ap (λ t. tail_value t e) c.in-Some.is ∙ ap (λ r. on_ok r (parts_of tail.span)) fault)

pub returns-in_ok-cell-in-Some : goal.returns-in_ok-cell-in-Some
returns-in_ok-cell-in-Some c =
    let terms = c.args.cells.now in
    let s = c.args.slots.now in
    let e = bindings_of terms s in
    let tail = c.in-Some.tail in
    let g =
    subst (λ r. GivesCell r (value_of_variable tail.span (bound e tail.var)) terms)
    (sym c.in_ok-cell-in-Some.ensures) (variable_gives terms s tail.var tail.span c.requires.slots) in
    let is =
    ap (λ t. tail_value t e) c.in-Some.is
    ∙ (ap (λ r. on_ok r (parts_of tail.span)) g.1
    ∙ ap (parts_of tail.span) (sym (at_named terms c.in_ok-cell-in-Some.cell g.0 g.2))) in
    subst (λ ts. GivesList c.list_or_fault.result ts terms) (sym is) c.list_or_fault.ensures
