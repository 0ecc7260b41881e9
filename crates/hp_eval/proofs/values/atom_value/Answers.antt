use Rattle.std.proofs.Common.{ap, sym, ◌∙◌, List, map, Ok, Err, Result}
use Rattle.std.proofs.lemmas.Result.{err_from_is_err_and}
use Rattle.hp_syntax.specs.declared.fault.RunFault.{RunFault}
use Rattle.hp_syntax.specs.declared.pattern.AtomPat.{AtomPat}
use Rattle.hp_syntax.specs.declared.pattern.Pat.{Pat}
use Rattle.hp_syntax.specs.Terms.{Term, Terms, Symbol, More}
use Rattle.hp_syntax.specs.Values.{Bindings, on_ok, list_of, values}
use Rattle.hp_syntax.specs.Views.{patterns_of}
use Rattle.hp_eval.specs.GoalViews.{term_at}
use Rattle.hp_eval.specs.Slotted.{bindings_of}
use Rattle.hp_eval.proofs.GrowthLemmas.{bindings_stay, below_grows, grows_on}
use Rattle.hp_eval.proofs.Stops.{gives_same}
use Rattle.hp_eval.proofs.ValueSteps.{tail_faults, tail_gives}
use Rattle.hp_eval.proofs.values.atom_value.Goals as goal

-- the list of an atom's name and its arguments
abbrev whole : AtomPat → Terms → Result Term RunFault
whole a ts = list_of a.span (More (Symbol a.name) ts)

-- an atom's value, of these arguments
abbrev of_args : AtomPat → Bindings → List Pat → Result Term RunFault
of_args a e ps = on_ok (values (patterns_of ps) a.tail e) (whole a)

pub returns-in_err-rest-clause-gives : goal.returns-in_err-rest-clause-gives
returns-in_err-rest-clause-gives c =
    let p = err_from_is_err_and c.from_residual-in_err-rest.result c.from_residual-in_err-rest.ensures.1 in
    let old = c.args.cells.now in
    let new = c.part_values.new.cells in
    let s = c.args.slots.now in
    let a = c.args.atom.now in
    let fault =
    tail_faults (patterns_of c.as_slice.result.now) a.tail (bindings_of old s) (bindings_of new s)
    (map (term_at new) c.in_ok-found.found.items)
    (bindings_stay old new c.in_ok-found.ensures.cells s c.requires.slots) (c.in_ok-found.ensures.gives a.tail)
    (whole a) c.in_err-rest.field-0.0 c.in_err-rest.ensures in
    let args = ap (of_args a (bindings_of old s)) c.as_slice.ensures.value in
    rw (p.1, p.2) (sym args ∙ fault)

pub returns-in_err-list-clause-gives : goal.returns-in_err-list-clause-gives
returns-in_err-list-clause-gives c =
    let p = err_from_is_err_and c.from_residual-in_err-list.result c.from_residual-in_err-list.ensures.1 in
    let old = c.args.cells.now in
    let new = c.part_values.new.cells in
    let s = c.args.slots.now in
    let a = c.args.atom.now in
    let tail = c.in_ok-rest.ensures in
    let value =
    tail_gives (patterns_of c.as_slice.result.now) a.tail (bindings_of old s) (bindings_of new s)
    (map (term_at new) c.in_ok-found.found.items)
    (bindings_stay old new c.in_ok-found.ensures.cells s c.requires.slots) (c.in_ok-found.ensures.gives a.tail)
    (whole a) tail.0 tail.1 in
    rw (p.1, p.2)
    (gives_same (Err c.in_err-list.field-0.0) _ _ c.named_list.new.cells
    (value ∙ ap (of_args a (bindings_of old s)) c.as_slice.ensures.value)
    (c.in_err-list.ensures.gives _ (c.in_ok-args.ensures.names tail.0 tail.2)))

pub returns-clause-gives : goal.returns-clause-gives
returns-clause-gives c =
    let old = c.args.cells.now in
    let new = c.part_values.new.cells in
    let s = c.args.slots.now in
    let a = c.args.atom.now in
    let tail = c.in_ok-rest.ensures in
    let value =
    tail_gives (patterns_of c.as_slice.result.now) a.tail (bindings_of old s) (bindings_of new s)
    (map (term_at new) c.in_ok-found.found.items)
    (bindings_stay old new c.in_ok-found.ensures.cells s c.requires.slots) (c.in_ok-found.ensures.gives a.tail)
    (whole a) tail.0 tail.1 in
    gives_same (Ok c.in_ok-list.list) _ _ c.named_list.new.cells
    (value ∙ ap (of_args a (bindings_of old s)) c.as_slice.ensures.value)
    (c.in_ok-list.ensures.gives _ (c.in_ok-args.ensures.names tail.0 tail.2))

pub tail_value-requires : goal.tail_value-requires
tail_value-requires c = record {
  slots = below_grows c.args.cells.now c.part_values.new.cells c.part_values.ensures.cells c.args.slots.now
      c.requires.slots;
}

pub list_onto-requires-clause-parts : goal.list_onto-requires-clause-parts
list_onto-requires-clause-parts c = c.in_ok-found.ensures.below

pub list_onto-requires-clause-rest : goal.list_onto-requires-clause-rest
list_onto-requires-clause-rest c = (c.in_ok-rest.ensures.0, c.in_ok-rest.ensures.2)

pub named_list-requires : goal.named_list-requires
named_list-requires c = record {
  parts = (_, c.in_ok-args.ensures.names c.in_ok-rest.ensures.0 c.in_ok-rest.ensures.2);
}

pub returns-in_err-found-clause-cells : goal.returns-in_err-found-clause-cells
returns-in_err-found-clause-cells c = c.part_values.ensures.cells

pub returns-in_err-rest-clause-cells : goal.returns-in_err-rest-clause-cells
returns-in_err-rest-clause-cells c = c.part_values.ensures.cells

pub returns-in_err-args-clause-cells : goal.returns-in_err-args-clause-cells
returns-in_err-args-clause-cells c =
    grows_on c.args.cells.now c.part_values.new.cells c.list_onto.new.cells c.part_values.ensures.cells
    c.list_onto.ensures.cells

pub returns-in_err-list-clause-cells : goal.returns-in_err-list-clause-cells
returns-in_err-list-clause-cells c =
    let parts = c.part_values.new.cells in
    grows_on c.args.cells.now parts c.named_list.new.cells c.part_values.ensures.cells
    (grows_on parts c.list_onto.new.cells c.named_list.new.cells c.list_onto.ensures.cells c.named_list.ensures.cells)

pub returns-clause-cells : goal.returns-clause-cells
returns-clause-cells c =
    let parts = c.part_values.new.cells in
    grows_on c.args.cells.now parts c.named_list.new.cells c.part_values.ensures.cells
    (grows_on parts c.list_onto.new.cells c.named_list.new.cells c.list_onto.ensures.cells c.named_list.ensures.cells)
