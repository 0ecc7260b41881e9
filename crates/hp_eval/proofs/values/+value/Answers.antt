use Rattle.std.proofs.Common.{◌≡◌, ap, sym, ◌∙◌, length, ◌<◌, subst, Some, None, Ok, Err, map, FitsSigned, rules, arith}
use Rattle.std.specs.Int.{w64}
use Rattle.std.proofs.lemmas.Int.{to_z-of_z}
use Rattle.std.specs.List.{All}
use Rattle.std.proofs.lemmas.List.Elements.{All-nil}
use Rattle.std.proofs.lemmas.Result.{err_from_is_err_and}
use Rattle.hp_syntax.specs.Calls.{call}
use Rattle.hp_syntax.specs.Terms.{Symbol, Number, More}
use Rattle.hp_syntax.specs.Values.{on_ok, list_of, tail_value, value, values, value_of_variable, bound}
use Rattle.hp_syntax.specs.Views.{pattern_of, patterns_of}
use Rattle.hp_eval.specs.GoalViews.{term_at, row_of}
use Rattle.hp_eval.specs.Slotted.{bindings_of}
use Rattle.hp_eval.specs.Steps.{GivesCell}
use Rattle.hp_eval.proofs.GrowthLemmas.{bindings_stay, grows_on, below_grows, grows_self, grows_same}
use Rattle.hp_eval.proofs.Loops.{behind, behind_none, values_more, values_stop, values_all}
use Rattle.hp_eval.proofs.Stops.{stop_of_cell, gives_same}
use Rattle.hp_eval.proofs.ValueSteps.{values_step, values_none, part_stops, terms_pushed, below_pushed, tail_faults, tail_gives, parts_give, variable_gives, value_of-var, value_of-sym, value_of-num, value_of-list, value_of-call}
use Rattle.hp_eval.proofs.ListSteps.{interns_grows}
use Rattle.hp_eval.proofs.Sizes.{pattern-smaller, list-size, call-size}
use Rattle.hp_eval.proofs.values.+value.Goals as goal

-- ---- parts

pub part_values-returns-in_err-cell-clause-gives : goal.part_values-returns-in_err-cell-clause-gives
part_values-returns-in_err-cell-clause-gives t c =
    let p = err_from_is_err_and c.from_residual-in_err-cell.result c.from_residual-in_err-cell.ensures.1 in
    let old = c.loop-part.cells in
    let s = c.args.slots.now in
    let e = bindings_of c.args.cells.now s in
    let ps = c.args.parts.now in
    let pat = pattern_of c.part-item.result in
    let stop = c.in_err-cell.field-0.0 in
    let same = bindings_stay c.args.cells.now old c.loop-part.invariant.grows s c.requires.slots in
    rw (p.1, p.2)
    (part_stops stop (value pat (bindings_of old s)) (patterns_of ps) e c.value.new.cells
    (stop_of_cell stop (value pat (bindings_of old s)) c.value.new.cells c.in_err-cell.ensures.gives)
    (λ f h tail.
    values_stop (λ q. value (pattern_of q) e) (λ qs. values (patterns_of qs) tail e) More (values_step tail e) ps
    c.loop-part.part-index c.part-item.result (map (term_at old) c.loop-part.found.items)
    (values (patterns_of ps) tail e) c.loop-part-test.true c.part-item.is (c.loop-part.invariant.so_far tail) f
    (ap (value pat) (sym same) ∙ h)))

pub part_values-loop-part-preserved : goal.part_values-loop-part-preserved
part_values-loop-part-preserved t c =
    let old = c.loop-part.cells in
    let new = c.value.new.cells in
    let s = c.args.slots.now in
    let e = bindings_of c.args.cells.now s in
    let ps = c.args.parts.now in
    let pat = pattern_of c.part-item.result in
    let found = c.loop-part.found.items in
    let pushed = c.push_reserved.new.self.items in
    let held = c.loop-part.invariant in
    let got = c.in_ok-cell.ensures in
    let same = bindings_stay c.args.cells.now old held.grows s c.requires.slots in
    record {
      grows = grows_on c.args.cells.now old new held.grows got.cells;
      room = omega arith;
      below =
          below_pushed old new got.cells found pushed c.in_ok-cell.cell got.gives.0 held.below
          c.push_reserved.ensures.items got.gives.2;
      so_far =
          λ tail.
          values_more (λ q. value (pattern_of q) e) (λ qs. values (patterns_of qs) tail e) More (values_step tail e) ps
          c.loop-part.part-index c.part-item.result (map (term_at old) found) (values (patterns_of ps) tail e)
          c.loop-part-test.true c.part-item.is (held.so_far tail) got.gives.0 (map (term_at new) pushed)
          (ap (value pat) (sym same) ∙ got.gives.1)
          (terms_pushed old new got.cells found pushed c.in_ok-cell.cell got.gives.0 held.below
          c.push_reserved.ensures.items got.gives.2);
    }

pub part_values-returns-clause-gives : goal.part_values-returns-clause-gives
part_values-returns-clause-gives t c =
    let e = bindings_of c.args.cells.now c.args.slots.now in
    let ps = c.args.parts.now in
    λ tail.
    values_all (λ q. value (pattern_of q) e) (λ qs. values (patterns_of qs) tail e) More (values_step tail e)
    (tail_value tail e) ps c.loop-part.part-index (map (term_at c.loop-part.cells) c.loop-part.found.items)
    (values (patterns_of ps) tail e) (values_none tail e) c.loop-part-test.false (c.loop-part.invariant.so_far tail)

-- ---- calls

pub call_value-returns-in_err-cell-clause-gives : goal.call_value-returns-in_err-cell-clause-gives
call_value-returns-in_err-cell-clause-gives t c =
    let p = err_from_is_err_and c.from_residual-in_err-cell.result c.from_residual-in_err-cell.ensures.1 in
    let terms = c.part_values.new.cells in
    let name = c.args.name.now in
    let span = c.args.span in
    rw (p.1, p.2)
    (gives_same (Err c.in_err-cell.field-0.0) _ _ c.call.new.cells
    (ap (λ cs. call name (row_of (map (term_at terms) cs)) span) c.as_slice.ensures.value
    ∙ parts_give (patterns_of c.args.args.now) (bindings_of c.args.cells.now c.args.slots.now)
    (map (term_at terms) c.in_ok-found.found.items) (λ ts. call name ts span) (c.in_ok-found.ensures.gives None))
    c.in_err-cell.ensures.gives)

pub call_value-returns-clause-gives : goal.call_value-returns-clause-gives
call_value-returns-clause-gives t c =
    let terms = c.part_values.new.cells in
    let name = c.args.name.now in
    let span = c.args.span in
    gives_same (Ok c.in_ok-cell.cell) _ _ c.call.new.cells
    (ap (λ cs. call name (row_of (map (term_at terms) cs)) span) c.as_slice.ensures.value
    ∙ parts_give (patterns_of c.args.args.now) (bindings_of c.args.cells.now c.args.slots.now)
    (map (term_at terms) c.in_ok-found.found.items) (λ ts. call name ts span) (c.in_ok-found.ensures.gives None))
    c.in_ok-cell.ensures.gives

-- ---- lists

pub list_value-returns-in_err-rest-clause-gives : goal.list_value-returns-in_err-rest-clause-gives
list_value-returns-in_err-rest-clause-gives t c =
    let p = err_from_is_err_and c.from_residual-in_err-rest.result c.from_residual-in_err-rest.ensures.1 in
    let old = c.args.cells.now in
    let new = c.part_values.new.cells in
    let s = c.args.slots.now in
    rw (p.1, p.2)
    (tail_faults (patterns_of c.args.parts.now) c.args.tail (bindings_of old s) (bindings_of new s)
    (map (term_at new) c.in_ok-found.found.items) (bindings_stay old new c.in_ok-found.ensures.cells s c.requires.slots)
    (c.in_ok-found.ensures.gives c.args.tail) (list_of c.args.span) c.in_err-rest.field-0.0 c.in_err-rest.ensures)

pub list_value-returns-in_err-list-clause-gives : goal.list_value-returns-in_err-list-clause-gives
list_value-returns-in_err-list-clause-gives t c =
    let p = err_from_is_err_and c.from_residual-in_err-list.result c.from_residual-in_err-list.ensures.1 in
    let old = c.args.cells.now in
    let new = c.part_values.new.cells in
    let s = c.args.slots.now in
    let tail = c.in_ok-rest.ensures in
    rw (p.1, p.2)
    (gives_same (Err c.in_err-list.field-0.0) _ _ c.listed.new.cells
    (tail_gives (patterns_of c.args.parts.now) c.args.tail (bindings_of old s) (bindings_of new s)
    (map (term_at new) c.in_ok-found.found.items) (bindings_stay old new c.in_ok-found.ensures.cells s c.requires.slots)
    (c.in_ok-found.ensures.gives c.args.tail) (list_of c.args.span) tail.0 tail.1)
    (c.in_err-list.ensures.gives tail.0 tail.2))

pub list_value-returns-clause-gives : goal.list_value-returns-clause-gives
list_value-returns-clause-gives t c =
    let old = c.args.cells.now in
    let new = c.part_values.new.cells in
    let s = c.args.slots.now in
    let tail = c.in_ok-rest.ensures in
    gives_same (Ok c.in_ok-list.list) _ _ c.listed.new.cells
    (tail_gives (patterns_of c.args.parts.now) c.args.tail (bindings_of old s) (bindings_of new s)
    (map (term_at new) c.in_ok-found.found.items) (bindings_stay old new c.in_ok-found.ensures.cells s c.requires.slots)
    (c.in_ok-found.ensures.gives c.args.tail) (list_of c.args.span) tail.0 tail.1)
    (c.in_ok-list.ensures.gives tail.0 tail.2)

-- ---- patterns

pub value-returns-in_err-cell-in-Var-clause-gives : goal.value-returns-in_err-cell-in-Var-clause-gives
value-returns-in_err-cell-in-Var-clause-gives t c =
    let p = err_from_is_err_and c.from_residual.result c.from_residual.ensures.1 in
    let terms = c.args.cells.now in
    let s = c.args.slots.now in
    let span = c.args.pat.now.span in
    let v = c.in-Var.v in
    rw (p.1, p.2)
    (value_of-var c.args.pat.now (bindings_of terms s) v c.in-Var.is
    ∙ subst (λ r. GivesCell r (value_of_variable span (bound (bindings_of terms s) v)) terms)
    (sym c.in_err-cell-in-Var.ensures) (variable_gives terms s v span c.requires.slots))

pub value-returns-in_ok-cell-in-Var-clause-gives : goal.value-returns-in_ok-cell-in-Var-clause-gives
value-returns-in_ok-cell-in-Var-clause-gives t c =
    let terms = c.args.cells.now in
    let s = c.args.slots.now in
    let span = c.args.pat.now.span in
    let v = c.in-Var.v in
    let g =
    subst (λ r. GivesCell r (value_of_variable span (bound (bindings_of terms s) v)) terms)
    (sym c.in_ok-cell-in-Var.ensures) (variable_gives terms s v span c.requires.slots) in
    (g.0, value_of-var c.args.pat.now (bindings_of terms s) v c.in-Var.is ∙ g.1, g.2)

pub value-returns-in_ok-cell-in-Sym-clause-gives : goal.value-returns-in_ok-cell-in-Sym-clause-gives
value-returns-in_ok-cell-in-Sym-clause-gives t c =
    let e = bindings_of c.args.cells.now c.args.slots.now in (
      Symbol c.in-Sym.name,
      value_of-sym c.args.pat.now e c.in-Sym.name c.in-Sym.is,
      c.in_ok-cell-in-Sym.ensures.ok.names,
    )

pub value-returns-in_ok-cell-in-Num-clause-gives : goal.value-returns-in_ok-cell-in-Num-clause-gives
value-returns-in_ok-cell-in-Num-clause-gives t c =
    let e = bindings_of c.args.cells.now c.args.slots.now in
    let n-fits : FitsSigned w64 c.in-Num.n = search rules in (
      Number c.in-Num.n,
      value_of-num c.args.pat.now e c.in-Num.n c.in-Num.is,
      c.in_ok-cell-in-Num.ensures.ok.names ∙ ap (λ n. Some (Number n)) (to_z-of_z w64 c.in-Num.n n-fits),
    )

pub value-returns-in-List-clause-gives : goal.value-returns-in-List-clause-gives
value-returns-in-List-clause-gives t c =
    let e = bindings_of c.args.cells.now c.args.slots.now in
    let span = c.args.pat.now.span in
    gives_same c.list_value.result _ _ c.list_value.new.cells
    (ap (λ ps. on_ok (values (patterns_of ps) c.in-List.tail e) (list_of span)) c.as_slice.ensures.value
    ∙ sym (value_of-list c.args.pat.now e c.in-List.parts c.in-List.tail c.in-List.is)) c.list_value.ensures.gives

pub value-returns-in-Call-clause-gives : goal.value-returns-in-Call-clause-gives
value-returns-in-Call-clause-gives t c =
    let e = bindings_of c.args.cells.now c.args.slots.now in
    let span = c.args.pat.now.span in
    gives_same c.call_value.result _ _ c.call_value.new.cells
    (ap (λ ps. on_ok (values (patterns_of ps) None e) (λ ts. call c.in-Call.name ts span))
    c.as_slice-in-Call.ensures.value
    ∙ sym (value_of-call c.args.pat.now e c.in-Call.name c.in-Call.args c.in-Call.is)) c.call_value.ensures.gives

-- ---- terms only grow

pub part_values-returns-in_err-found-clause-cells : goal.part_values-returns-in_err-found-clause-cells
part_values-returns-in_err-found-clause-cells t c = grows_self c.args.cells.now

pub part_values-returns-in_err-cell-clause-cells : goal.part_values-returns-in_err-cell-clause-cells
part_values-returns-in_err-cell-clause-cells t c =
    grows_on c.args.cells.now c.loop-part.cells c.value.new.cells c.loop-part.invariant.grows c.value.ensures.cells

pub part_values-returns-clause-cells : goal.part_values-returns-clause-cells
part_values-returns-clause-cells t c = c.loop-part.invariant.grows

pub call_value-returns-in_err-found-clause-cells : goal.call_value-returns-in_err-found-clause-cells
call_value-returns-in_err-found-clause-cells t c = c.part_values.ensures.cells

pub call_value-returns-in_err-cell-clause-cells : goal.call_value-returns-in_err-cell-clause-cells
call_value-returns-in_err-cell-clause-cells t c =
    grows_on c.args.cells.now c.part_values.new.cells c.call.new.cells c.part_values.ensures.cells c.call.ensures.cells

pub call_value-returns-clause-cells : goal.call_value-returns-clause-cells
call_value-returns-clause-cells t c =
    grows_on c.args.cells.now c.part_values.new.cells c.call.new.cells c.part_values.ensures.cells c.call.ensures.cells

pub list_value-tail_value-requires : goal.list_value-tail_value-requires
list_value-tail_value-requires t c = record {
  slots = below_grows c.args.cells.now c.part_values.new.cells c.part_values.ensures.cells c.args.slots.now
      c.requires.slots;
}

pub list_value-listed-requires-clause-parts : goal.list_value-listed-requires-clause-parts
list_value-listed-requires-clause-parts t c = c.in_ok-found.ensures.below

pub list_value-listed-requires-clause-rest : goal.list_value-listed-requires-clause-rest
list_value-listed-requires-clause-rest t c = (c.in_ok-rest.ensures.0, c.in_ok-rest.ensures.2)

pub list_value-returns-in_err-found-clause-cells : goal.list_value-returns-in_err-found-clause-cells
list_value-returns-in_err-found-clause-cells t c = c.part_values.ensures.cells

pub list_value-returns-in_err-rest-clause-cells : goal.list_value-returns-in_err-rest-clause-cells
list_value-returns-in_err-rest-clause-cells t c = c.part_values.ensures.cells

pub list_value-returns-in_err-list-clause-cells : goal.list_value-returns-in_err-list-clause-cells
list_value-returns-in_err-list-clause-cells t c =
    grows_on c.args.cells.now c.part_values.new.cells c.listed.new.cells c.part_values.ensures.cells
    c.listed.ensures.cells

pub list_value-returns-clause-cells : goal.list_value-returns-clause-cells
list_value-returns-clause-cells t c =
    grows_on c.args.cells.now c.part_values.new.cells c.listed.new.cells c.part_values.ensures.cells
    c.listed.ensures.cells

pub value-returns-in_err-cell-in-Var-clause-cells : goal.value-returns-in_err-cell-in-Var-clause-cells
value-returns-in_err-cell-in-Var-clause-cells t c = grows_self c.args.cells.now

pub value-returns-in_ok-cell-in-Var-clause-cells : goal.value-returns-in_ok-cell-in-Var-clause-cells
value-returns-in_ok-cell-in-Var-clause-cells t c = grows_self c.args.cells.now

pub value-returns-in_err-cell-in-Sym-clause-cells : goal.value-returns-in_err-cell-in-Sym-clause-cells
value-returns-in_err-cell-in-Sym-clause-cells t c =
    grows_same c.args.cells.now c.sym.new.self c.in_err-cell-in-Sym.ensures.err

pub value-returns-in_ok-cell-in-Sym-clause-cells : goal.value-returns-in_ok-cell-in-Sym-clause-cells
value-returns-in_ok-cell-in-Sym-clause-cells t c =
    interns_grows _ c.in_ok-cell-in-Sym.cell c.args.cells.now c.sym.new.self c.in_ok-cell-in-Sym.ensures.ok

pub value-returns-in_err-cell-in-Num-clause-cells : goal.value-returns-in_err-cell-in-Num-clause-cells
value-returns-in_err-cell-in-Num-clause-cells t c =
    grows_same c.args.cells.now c.num.new.self c.in_err-cell-in-Num.ensures.err

pub value-returns-in_ok-cell-in-Num-clause-cells : goal.value-returns-in_ok-cell-in-Num-clause-cells
value-returns-in_ok-cell-in-Num-clause-cells t c =
    interns_grows _ c.in_ok-cell-in-Num.cell c.args.cells.now c.num.new.self c.in_ok-cell-in-Num.ensures.ok

pub value-returns-in-List-clause-cells : goal.value-returns-in-List-clause-cells
value-returns-in-List-clause-cells t c = c.list_value.ensures.cells

pub value-returns-in-Call-clause-cells : goal.value-returns-in-Call-clause-cells
value-returns-in-Call-clause-cells t c = c.call_value.ensures.cells

-- ---- recursion goes to smaller patterns

pub value-list_value-requires : goal.value-list_value-requires
value-list_value-requires t c =
    let size = list-size c.args.pat.now c.as_slice.result.now c.in-List.parts c.in-List.tail c.in-List.is
    c.as_slice.ensures.value in
    let whole = c.decreases in
    (omega (arith, size, whole), c.requires.slots)

pub value-call_value-requires : goal.value-call_value-requires
value-call_value-requires t c =
    let args = c.as_slice-in-Call in
    let size = call-size c.args.pat.now args.result.now c.in-Call.name c.in-Call.args c.in-Call.is args.ensures.value in
    let whole = c.decreases in
    (omega (arith, size, whole), c.requires.slots)

pub list_value-part_values-requires : goal.list_value-part_values-requires
list_value-part_values-requires t c = let whole = c.decreases in (omega (arith, whole), c.requires.slots)

pub call_value-part_values-requires : goal.call_value-part_values-requires
call_value-part_values-requires t c = let whole = c.decreases in (omega (arith, whole), c.requires.slots)

pub part_values-value-requires : goal.part_values-value-requires
part_values-value-requires t c =
    let grows = c.loop-part.invariant.grows in
    let smaller = pattern-smaller c.args.parts.now c.loop-part.part-index c.part-item.result c.loop-part-test.true
    c.part-item.is in
    let whole = c.decreases in (
      omega (arith, smaller, whole),
      below_grows c.args.cells.now c.loop-part.cells grows c.args.slots.now c.requires.slots,
    )

pub part_values-loop-part-init : goal.part_values-loop-part-init
part_values-loop-part-init t c =
    let old = c.args.cells.now in
    let ps = patterns_of c.args.parts.now in
    let e = bindings_of old c.args.slots.now in
    let made = c.in_ok-found.ensures in
    let items = made.items in
    record {
      grows = grows_self old;
      room = (made.len, made.capacity);
      below = subst (All (λ n. n < length old)) (sym items) (All-nil (λ n. n < length old));
      so_far =
          λ tail. subst (λ ns. values ps tail e ≡ behind More (map (term_at old) ns) (values ps tail e)) (sym items)
          (behind_none More (values ps tail e));
    }

pub part_values-loop-part-smaller : goal.part_values-loop-part-smaller
part_values-loop-part-smaller t c = omega arith
