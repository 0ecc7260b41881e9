use Rattle.std.proofs.Common.{◌≡◌, true, length, sym, ◌∙◌, ap, subst, rules, arith}
use Rattle.std.proofs.lemmas.List.Elements.{All-nil, All-push}
use Rattle.std.proofs.lemmas.Option.{slice_get_within}
use Rattle.std.proofs.lemmas.Result.{err_from_is_err_and}
use Rattle.hp_syntax.specs.ViewLaws.{pattern_of-var, pattern_of-list}
use Rattle.hp_syntax.specs.Views.{pattern_of}
use Rattle.hp_syntax.specs.Goals as plain
use Rattle.hp_eval.specs.Slotted.{bindings_of}
use Rattle.hp_eval.specs.Growth.{GivesBy}
use Rattle.hp_eval.specs.GoalViews.{filled_of, fillings_of, is_below}
use Rattle.hp_eval.specs.FillSteps.{rest_of, untailed, AreFilledBelow}
use Rattle.hp_eval.proofs.GrowthLemmas.{bindings_stay, below_grows, grows_self, grows_length, grows_on}
use Rattle.hp_eval.proofs.GoalViewLemmas.{known_below, is_below-free, all_below_grow, fillings_grow}
use Rattle.hp_eval.proofs.FillStepLemmas.{AreFilledTo, bound_below, fill_bound, fill_free, fill_valued, filled_fault, filled_none, filled_more, filled_all, stop_passes, list_parts_stop, list_rest_stop, list_is_filled, valued_stop, valued_filled}
use Rattle.hp_eval.proofs.Sizes.{pattern-smaller, list-size}
use Rattle.hp_eval.proofs.goals.+fill.Goals as goal

pub fill-returns-in_err-filled-in-List-clause-gives : goal.fill-returns-in_err-filled-in-List-clause-gives
fill-returns-in_err-filled-in-List-clause-gives t c =
    let r = c.from_residual in
    let p = err_from_is_err_and r.result r.ensures.1 in
    let pat = c.args.pat.now in
    let new = c.fill_parts.new.cells in
    rw (p.1, p.2) (list_parts_stop (pattern_of pat) pat.span c.as_slice.result.now c.in-List.parts.items c.in-List.tail
    (bindings_of c.args.cells.now c.args.slots.now) (pattern_of-list pat c.in-List.parts c.in-List.tail c.in-List.is)
    c.as_slice.ensures.value (untailed new) (filled_of new) c.in_err-filled-in-List.field-0.0
    c.in_err-filled-in-List.ensures.gives)

pub fill-returns-in_err-rest-in-List-clause-gives : goal.fill-returns-in_err-rest-in-List-clause-gives
fill-returns-in_err-rest-in-List-clause-gives t c =
    let r = c.from_residual-in_err-rest-in-List in
    let p = err_from_is_err_and r.result r.ensures.1 in
    let pat = c.args.pat.now in
    let old = c.args.cells.now in
    let new = c.fill_parts.new.cells in
    let made = c.in_ok-filled-in-List.ensures in
    rw (p.1, p.2) (list_rest_stop (pattern_of pat) pat.span c.as_slice.result.now c.in-List.parts.items c.in-List.tail
    (bindings_of old c.args.slots.now) (pattern_of-list pat c.in-List.parts c.in-List.tail c.in-List.is)
    c.as_slice.ensures.value (bindings_of new c.args.slots.now) (fillings_of new c.in_ok-filled-in-List.filled.items)
    (bindings_stay old new made.cells c.args.slots.now c.requires.slots) made.gives (rest_of new) (filled_of new)
    c.in_err-rest-in-List.field-0.0 c.in_err-rest-in-List.ensures.gives)

pub fill-returns-in_err-value-in_default : goal.fill-returns-in_err-value-in_default
fill-returns-in_err-value-in_default t c =
    let r = c.from_residual-in_err-value-in_default in
    let p = err_from_is_err_and r.result r.ensures.1 in
    let pat = c.args.pat.now in
    let e = bindings_of c.args.cells.now c.args.slots.now in
    let new = c.value.new.cells in
    record {
      gives =
          rw (p.1, p.2)
          (valued_stop (pattern_of pat) e (fill_valued pat e c.in_default.not-Var c.in_default.not-List) (filled_of new)
          c.in_err-value-in_default.field-0.0 new c.in_err-value-in_default.ensures.gives);
      below = search rules;
      cells = c.value.ensures.cells;
    }

pub fill-returns-in_ok-value-in_default : goal.fill-returns-in_ok-value-in_default
fill-returns-in_ok-value-in_default t c =
    let pat = c.args.pat.now in
    let e = bindings_of c.args.cells.now c.args.slots.now in
    let new = c.value.new.cells in
    let cell = c.in_ok-value-in_default.field-0 in
    let made = c.in_ok-value-in_default.ensures.gives in
    record {
      gives =
          valued_filled (pattern_of pat) e (fill_valued pat e c.in_default.not-Var c.in_default.not-List) new cell
          made.0 made.1 made.2;
      below = known_below _ cell (slice_get_within new cell _ made.2);
      cells = c.value.ensures.cells;
    }

pub fill-returns-in-Some-clause-gives : goal.fill-returns-in-Some-clause-gives
fill-returns-in-Some-clause-gives t c =
    ap (λ p. plain.fill p (bindings_of c.args.cells.now c.args.slots.now)) (pattern_of-var c.args.pat.now _ c.in-Var.is)
    ∙ fill_bound c.args.cells.now c.args.slots.now c.args.pat.now.span c.in-Var.v c.in-Some.cell c.requires.slots
    (sym c.in-Some.ensures)

pub fill-returns-in-Some-clause-below : goal.fill-returns-in-Some-clause-below
fill-returns-in-Some-clause-below t c =
    known_below _ c.in-Some.cell
    (bound_below _ c.args.slots.now c.in-Var.v c.in-Some.cell c.requires.slots (sym c.in-Some.ensures))

pub fill-returns-in-None-clause-gives : goal.fill-returns-in-None-clause-gives
fill-returns-in-None-clause-gives t c =
    ap (λ p. plain.fill p (bindings_of c.args.cells.now c.args.slots.now)) (pattern_of-var c.args.pat.now _ c.in-Var.is)
    ∙ fill_free c.args.cells.now c.args.slots.now c.args.pat.now.span c.in-Var.v (sym c.in-None.ensures)

pub fill-returns-in-None-clause-below : goal.fill-returns-in-None-clause-below
fill-returns-in-None-clause-below t c = is_below-free _ c.in-Var.v

pub fill-returns-in_ok-rest-in-List-clause-gives : goal.fill-returns-in_ok-rest-in-List-clause-gives
fill-returns-in_ok-rest-in-List-clause-gives t c =
    let pat = c.args.pat.now in
    let old = c.args.cells.now in
    let new = c.fill_parts.new.cells in
    let made = c.in_ok-filled-in-List.ensures in
    let is =
    list_is_filled (pattern_of pat) pat.span c.as_slice.result.now c.in-List.parts.items c.in-List.tail
    (bindings_of old c.args.slots.now) (pattern_of-list pat c.in-List.parts c.in-List.tail c.in-List.is)
    c.as_slice.ensures.value (bindings_of new c.args.slots.now)
    (fillings_of new c.in_ok-filled-in-List.filled.items)
    (bindings_stay old new made.cells c.args.slots.now c.requires.slots) made.gives
    (rest_of new c.in_ok-rest-in-List.rest) c.in_ok-rest-in-List.ensures.gives in
    subst (GivesBy (filled_of c.fill_list.new.cells) c.fill_list.result) (sym is) c.fill_list.ensures.gives

pub fill_parts-returns-in_err-part-clause-gives : goal.fill_parts-returns-in_err-part-clause-gives
fill_parts-returns-in_err-part-clause-gives t c =
    let r = c.from_residual-in_err-part in
    let p = err_from_is_err_and r.result r.ensures.1 in
    let held = c.loop-pat.invariant in
    let there = bindings_stay c.args.cells.now c.loop-pat.cells held.grows c.args.slots.now c.requires.slots in
    let new = c.fill.new.cells in
    rw (p.1, p.2) (stop_passes (filled_of new) (untailed new) c.in_err-part.field-0.0 _ _
    (λ k j. filled_fault c.args.pats.now c.loop-pat.pat-index c.pat-item.result
    (bindings_of c.args.cells.now c.args.slots.now) _ k c.loop-pat-test.true c.pat-item.is
    (ap (plain.fill (pattern_of c.pat-item.result)) (sym there) ∙ j) held.so_far) c.in_err-part.ensures.gives)

pub fill_parts-loop-pat-preserved : goal.fill_parts-loop-pat-preserved
fill_parts-loop-pat-preserved t c =
    let held = c.loop-pat.invariant in
    let old = c.loop-pat.cells in
    let new = c.fill.new.cells in
    let filled = c.loop-pat.filled.items in
    let e = bindings_of c.args.cells.now c.args.slots.now in
    let there = bindings_stay c.args.cells.now old held.grows c.args.slots.now c.requires.slots in
    let made = c.in_ok-part.ensures in
    record {
      grows = grows_on c.args.cells.now old new held.grows made.cells;
      room = omega arith;
      below =
          rw c.push_reserved.ensures.items
          (All-push (λ f. is_below (length new) f ≡ true) filled c.in_ok-part.part
          (all_below_grow (length old) (length new) filled (grows_length old new made.cells) held.below) made.below);
      so_far =
          rw c.push_reserved.ensures.items
          (filled_more new c.args.pats.now c.loop-pat.pat-index c.pat-item.result e filled c.in_ok-part.part
          c.loop-pat-test.true c.pat-item.is (ap (plain.fill (pattern_of c.pat-item.result)) (sym there) ∙ made.gives)
          (subst (AreFilledTo c.args.pats.now c.loop-pat.pat-index e)
          (sym (fillings_grow old new filled made.cells held.below)) held.so_far));
    }

pub fill_parts-returns-clause-gives : goal.fill_parts-returns-clause-gives
fill_parts-returns-clause-gives t c =
    filled_all c.args.pats.now c.loop-pat.pat-index (bindings_of c.args.cells.now c.args.slots.now) _
    c.loop-pat-test.false c.loop-pat.invariant.so_far

pub fill-fill_tail-requires : goal.fill-fill_tail-requires
fill-fill_tail-requires t c = record {
  slots = below_grows c.args.cells.now c.fill_parts.new.cells c.fill_parts.ensures.cells c.args.slots.now
      c.requires.slots;
}

pub fill-fill_list-requires-clause-rest : goal.fill-fill_list-requires-clause-rest
fill-fill_list-requires-clause-rest t c = c.in_ok-rest-in-List.ensures.below

pub fill-fill_list-requires-clause-parts : goal.fill-fill_list-requires-clause-parts
fill-fill_list-requires-clause-parts t c = c.in_ok-filled-in-List.ensures.below

pub fill-returns-in-Some-clause-cells : goal.fill-returns-in-Some-clause-cells
fill-returns-in-Some-clause-cells t c = grows_self c.args.cells.now

pub fill-returns-in-None-clause-cells : goal.fill-returns-in-None-clause-cells
fill-returns-in-None-clause-cells t c = grows_self c.args.cells.now

pub fill-returns-in_err-filled-in-List-clause-cells : goal.fill-returns-in_err-filled-in-List-clause-cells
fill-returns-in_err-filled-in-List-clause-cells t c = c.fill_parts.ensures.cells

pub fill-returns-in_err-rest-in-List-clause-cells : goal.fill-returns-in_err-rest-in-List-clause-cells
fill-returns-in_err-rest-in-List-clause-cells t c = c.fill_parts.ensures.cells

pub fill-returns-in_ok-rest-in-List-clause-below : goal.fill-returns-in_ok-rest-in-List-clause-below
fill-returns-in_ok-rest-in-List-clause-below t c = c.fill_list.ensures.below

pub fill-returns-in_ok-rest-in-List-clause-cells : goal.fill-returns-in_ok-rest-in-List-clause-cells
fill-returns-in_ok-rest-in-List-clause-cells t c =
    grows_on c.args.cells.now c.fill_parts.new.cells c.fill_list.new.cells c.fill_parts.ensures.cells
    c.fill_list.ensures.cells

pub fill_parts-returns-in_err-filled-clause-cells : goal.fill_parts-returns-in_err-filled-clause-cells
fill_parts-returns-in_err-filled-clause-cells t c = grows_self c.args.cells.now

pub fill_parts-returns-in_err-part-clause-cells : goal.fill_parts-returns-in_err-part-clause-cells
fill_parts-returns-in_err-part-clause-cells t c =
    grows_on c.args.cells.now c.loop-pat.cells c.fill.new.cells c.loop-pat.invariant.grows c.fill.ensures.cells

pub fill_parts-returns-clause-below : goal.fill_parts-returns-clause-below
fill_parts-returns-clause-below t c = c.loop-pat.invariant.below

pub fill_parts-returns-clause-cells : goal.fill_parts-returns-clause-cells
fill_parts-returns-clause-cells t c = c.loop-pat.invariant.grows

pub fill-value-requires : goal.fill-value-requires
fill-value-requires t c = record { slots = c.requires.slots }

pub fill_parts-loop-pat-init : goal.fill_parts-loop-pat-init
fill_parts-loop-pat-init t c =
    let old = c.args.cells.now in
    let pats = c.args.pats.now in
    let e = bindings_of old c.args.slots.now in
    let made = c.in_ok-filled.ensures in
    let items = made.items in
    record {
      grows = grows_self old;
      room = (made.len, made.capacity);
      below = subst (AreFilledBelow (length old)) (sym items) (All-nil (λ f. is_below (length old) f ≡ true));
      so_far = subst (λ fs. AreFilledTo pats 0 e (fillings_of old fs)) (sym items) (filled_none pats e);
    }

pub fill_parts-loop-pat-smaller : goal.fill_parts-loop-pat-smaller
fill_parts-loop-pat-smaller t c = omega arith

pub fill-fill_parts-requires : goal.fill-fill_parts-requires
fill-fill_parts-requires t c =
    let size = list-size c.args.pat.now c.as_slice.result.now c.in-List.parts c.in-List.tail c.in-List.is
    c.as_slice.ensures.value in
    let whole = c.decreases in
    (omega (arith, size, whole), c.requires.slots)

pub fill_parts-fill-requires : goal.fill_parts-fill-requires
fill_parts-fill-requires t c =
    let grows = c.loop-pat.invariant.grows in
    let smaller = pattern-smaller c.args.pats.now c.loop-pat.pat-index c.pat-item.result c.loop-pat-test.true
    c.pat-item.is in
    let whole = c.decreases in (
      omega (arith, smaller, whole),
      below_grows c.args.cells.now c.loop-pat.cells grows c.args.slots.now c.requires.slots,
    )
