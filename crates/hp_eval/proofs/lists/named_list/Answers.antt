use Rattle.std.proofs.lemmas.Option.{slice_get_within}
use Rattle.std.proofs.lemmas.Result.{err_from_is_err_and}
use Rattle.hp_syntax.specs.Terms.{Symbol, Listed, More}
use Rattle.hp_eval.proofs.GrowthLemmas.{still_names, grows_same, grows_on}
use Rattle.hp_eval.proofs.ListSteps.{interns_grows, names_named, named_grows}
use Rattle.hp_eval.proofs.lists.named_list.Goals as goal

pub cons-requires-clause-tail : goal.cons-requires-clause-tail
cons-requires-clause-tail c =
    let old = c.args.cells.now in
    let new = c.sym.new.self in
    let ts = c.requires.parts.0 in
    let grows = interns_grows (Symbol c.args.name.now) c.in_ok-first.first old new c.in_ok-first.ensures.ok in
    (ts, still_names old new grows c.args.parts (Listed ts) c.requires.parts.1)

pub within_depth-requires : goal.within_depth-requires
within_depth-requires c =
    let ts = c.requires.parts.0 in
    record {
      list =
          slice_get_within c.cons.new.self c.in_ok-list.list (Listed (More (Symbol c.args.name.now) ts))
          (names_named c.args.cells.now c.sym.new.self c.cons.new.self c.in_ok-first.first c.in_ok-list.list
          c.args.parts c.args.name.now ts c.in_ok-first.ensures.ok c.in_ok-list.ensures.ok c.requires.parts.1);
    }

pub returns-in_err-cell-clause-gives : goal.returns-in_err-cell-clause-gives
returns-in_err-cell-clause-gives c = λ ts is.
    let p = err_from_is_err_and c.from_residual-in_err-cell.result c.from_residual-in_err-cell.ensures.1 in
    rw (p.1, p.2)
    (c.in_err-cell.ensures (More (Symbol c.args.name.now) ts)
    (names_named c.args.cells.now c.sym.new.self c.cons.new.self c.in_ok-first.first c.in_ok-list.list c.args.parts
    c.args.name.now ts c.in_ok-first.ensures.ok c.in_ok-list.ensures.ok is))

pub returns-in_err-cell-clause-cells : goal.returns-in_err-cell-clause-cells
returns-in_err-cell-clause-cells c =
    named_grows c.args.cells.now c.sym.new.self c.cons.new.self c.in_ok-first.first c.in_ok-list.list c.args.parts
    c.args.name.now c.requires.parts.0 c.in_ok-first.ensures.ok c.in_ok-list.ensures.ok c.requires.parts.1

pub returns-clause-gives : goal.returns-clause-gives
returns-clause-gives c = λ ts is.
    c.in_ok-cell.ensures (More (Symbol c.args.name.now) ts)
    (names_named c.args.cells.now c.sym.new.self c.cons.new.self c.in_ok-first.first c.in_ok-list.list c.args.parts
    c.args.name.now ts c.in_ok-first.ensures.ok c.in_ok-list.ensures.ok is)

pub returns-clause-cells : goal.returns-clause-cells
returns-clause-cells c =
    named_grows c.args.cells.now c.sym.new.self c.cons.new.self c.in_ok-first.first c.in_ok-list.list c.args.parts
    c.args.name.now c.requires.parts.0 c.in_ok-first.ensures.ok c.in_ok-list.ensures.ok c.requires.parts.1

pub returns-in_err-first-clause-cells : goal.returns-in_err-first-clause-cells
returns-in_err-first-clause-cells c = grows_same c.args.cells.now c.sym.new.self c.in_err-first.ensures.err

pub returns-in_err-list-clause-cells : goal.returns-in_err-list-clause-cells
returns-in_err-list-clause-cells c =
    let old = c.args.cells.now in
    let middle = c.sym.new.self in
    grows_on old middle c.cons.new.self
    (interns_grows (Symbol c.args.name.now) c.in_ok-first.first old middle c.in_ok-first.ensures.ok)
    (grows_same middle c.cons.new.self c.in_err-list.ensures.err)
