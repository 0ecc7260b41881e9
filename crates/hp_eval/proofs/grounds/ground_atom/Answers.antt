use Rattle.std.proofs.Common.{ap, sym, ◌∙◌, subst}
use Rattle.std.proofs.lemmas.Option.{slice_get_within}
use Rattle.hp_syntax.specs.GroundPatterns.{AreGroundPatterns, terms_said}
use Rattle.hp_syntax.specs.Terms.{Symbol, Listed, More}
use Rattle.hp_syntax.specs.Views.{patterns_of}
use Rattle.hp_eval.proofs.CellViews.{at_named}
use Rattle.hp_eval.proofs.ListSteps.{interns_grows, names_named, named_grows}
use Rattle.hp_eval.proofs.GrowthLemmas.{grows_on, grows_same, still_names}
use Rattle.hp_eval.proofs.grounds.ground_atom.Goals as goal

pub ground_list-requires : goal.ground_list-requires
ground_list-requires c = record {
  ground = subst (λ ps. AreGroundPatterns (patterns_of ps)) (sym c.as_slice.ensures.value) c.requires.ground.args;
}

pub cons-requires-clause-tail : goal.cons-requires-clause-tail
cons-requires-clause-tail c =
    let old = c.ground_list.new.cells in
    let new = c.sym.new.self in
    let grows = interns_grows (Symbol c.args.atom.now.name) c.in_ok-name.name old new c.in_ok-name.ensures.ok in
    let names = c.in_ok-args.ensures.names in
    (_, still_names old new grows c.in_ok-args.args _ names)

pub returns-clause-term : goal.returns-clause-term
returns-clause-term c =
    let a = c.args.atom.now in
    let names =
    names_named c.ground_list.new.cells c.sym.new.self c.cons.new.self c.in_ok-name.name c.in_ok-cell.cell
    c.in_ok-args.args a.name _ c.in_ok-name.ensures.ok c.in_ok-cell.ensures.ok c.in_ok-args.ensures.names in
    at_named c.cons.new.self c.in_ok-cell.cell _ names
    ∙ ap (λ ps. Listed (More (Symbol a.name) (terms_said (patterns_of ps)))) c.as_slice.ensures.value

pub returns-clause-below : goal.returns-clause-below
returns-clause-below c =
    slice_get_within c.cons.new.self c.in_ok-cell.cell _
    (names_named c.ground_list.new.cells c.sym.new.self c.cons.new.self c.in_ok-name.name c.in_ok-cell.cell
    c.in_ok-args.args c.args.atom.now.name _ c.in_ok-name.ensures.ok c.in_ok-cell.ensures.ok
    c.in_ok-args.ensures.names)

pub returns-clause-cells : goal.returns-clause-cells
returns-clause-cells c =
    let parts = c.ground_list.new.cells in
    grows_on c.args.cells.now parts c.cons.new.self c.ground_list.ensures.cells
    (named_grows parts c.sym.new.self c.cons.new.self c.in_ok-name.name c.in_ok-cell.cell c.in_ok-args.args
    c.args.atom.now.name _ c.in_ok-name.ensures.ok c.in_ok-cell.ensures.ok c.in_ok-args.ensures.names)

pub returns-in_err-args-clause-cells : goal.returns-in_err-args-clause-cells
returns-in_err-args-clause-cells c = c.ground_list.ensures.cells

pub returns-in_err-name-clause-cells : goal.returns-in_err-name-clause-cells
returns-in_err-name-clause-cells c =
    let parts = c.ground_list.new.cells in
    grows_on c.args.cells.now parts c.sym.new.self c.ground_list.ensures.cells
    (grows_same parts c.sym.new.self c.in_err-name.ensures.err)

pub returns-in_err-cell-clause-cells : goal.returns-in_err-cell-clause-cells
returns-in_err-cell-clause-cells c =
    let parts = c.ground_list.new.cells in
    let named = c.sym.new.self in
    grows_on c.args.cells.now parts c.cons.new.self c.ground_list.ensures.cells
    (grows_on parts named c.cons.new.self
    (interns_grows (Symbol c.args.atom.now.name) c.in_ok-name.name parts named c.in_ok-name.ensures.ok)
    (grows_same named c.cons.new.self c.in_err-cell.ensures.err))
