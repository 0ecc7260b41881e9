use Rattle.std.proofs.Common.{Ok, sym, ◌∙◌, ap}
use Rattle.std.proofs.lemmas.Result.{err_from_is_err_and}
use Rattle.hp_syntax.specs.Goals.{ground_parts}
use Rattle.hp_syntax.specs.Views.{atom_of}
use Rattle.hp_eval.specs.Slotted.{bindings_of}
use Rattle.hp_eval.specs.GoalViews.{fillings_of, goal_of}
use Rattle.hp_eval.specs.FillSteps.{rest_of, untailed}
use Rattle.hp_eval.proofs.GrowthLemmas.{bindings_stay, below_grows}
use Rattle.hp_eval.proofs.FillStepLemmas.{goal_stop, goal_rest_stop, goal_is, goal_too_deep, goal_fits}
use Rattle.hp_eval.proofs.goals.fill_goal.Goals as goal

pub returns-in_err-args-clause-gives : goal.returns-in_err-args-clause-gives
returns-in_err-args-clause-gives c =
    let r = c.from_residual in
    let p = err_from_is_err_and r.result r.ensures.1 in
    let new = c.fill_parts.new.cells in
    rw (p.1, p.2) (goal_stop (untailed new) (goal_of new) c.in_err-args.field-0.0 (atom_of c.args.goal.now)
    (bindings_of c.args.cells.now c.args.slots.now) (rw c.as_slice.ensures.value at c.in_err-args.ensures.gives))

pub returns-in_err-rest-clause-gives : goal.returns-in_err-rest-clause-gives
returns-in_err-rest-clause-gives c =
    let r = c.from_residual-in_err-rest in
    let p = err_from_is_err_and r.result r.ensures.1 in
    let old = c.args.cells.now in
    let new = c.fill_parts.new.cells in
    let made = c.in_ok-args.ensures in
    rw (p.1, p.2) (goal_rest_stop (rest_of new) (goal_of new) c.in_err-rest.field-0.0 (atom_of c.args.goal.now)
    (bindings_of new c.args.slots.now) (bindings_of old c.args.slots.now) (fillings_of new c.in_ok-args.args.items)
    (bindings_stay old new made.cells c.args.slots.now c.requires.slots) (rw c.as_slice.ensures.value at made.gives)
    c.in_err-rest.ensures.gives)

pub returns-then-are_too_deep-clause-gives : goal.returns-then-are_too_deep-clause-gives
returns-then-are_too_deep-clause-gives c =
    let old = c.args.cells.now in
    let new = c.fill_parts.new.cells in
    let made = c.in_ok-args.ensures in
    let parts = fillings_of new c.append_rest.new.parts.items in
    goal_is (atom_of c.args.goal.now) (bindings_of new c.args.slots.now) (bindings_of old c.args.slots.now)
    (fillings_of new c.in_ok-args.args.items) (rest_of new c.in_ok-rest.rest) (parts, c.in_ok-tail.tail)
    (bindings_stay old new made.cells c.args.slots.now c.requires.slots) (rw c.as_slice.ensures.value at made.gives)
    c.in_ok-rest.ensures.gives c.in_ok-tail.ensures.joined
    ∙ goal_too_deep (atom_of c.args.goal.now) (parts, c.in_ok-tail.tail) (ground_parts parts c.in_ok-tail.tail)
    (rw c.as_slice-2.ensures.value at (sym c.if-are_too_deep.ensures))

pub returns-clause-gives : goal.returns-clause-gives
returns-clause-gives c =
    let old = c.args.cells.now in
    let new = c.fill_parts.new.cells in
    let made = c.in_ok-args.ensures in
    let parts = fillings_of new c.append_rest.new.parts.items in
    goal_is (atom_of c.args.goal.now) (bindings_of new c.args.slots.now) (bindings_of old c.args.slots.now)
    (fillings_of new c.in_ok-args.args.items) (rest_of new c.in_ok-rest.rest) (parts, c.in_ok-tail.tail)
    (bindings_stay old new made.cells c.args.slots.now c.requires.slots) (rw c.as_slice.ensures.value at made.gives)
    c.in_ok-rest.ensures.gives c.in_ok-tail.ensures.joined
    ∙ (goal_fits (atom_of c.args.goal.now) (parts, c.in_ok-tail.tail) (ground_parts parts c.in_ok-tail.tail)
    (rw c.as_slice-2.ensures.value at (sym c.if-are_too_deep.ensures))
    ∙ ap (λ n. Ok (record { name = n; parts = parts; tail = c.in_ok-tail.tail })) (sym c.in_ok-name.ensures.same))

pub fill_tail-requires : goal.fill_tail-requires
fill_tail-requires c = record {
  slots = below_grows c.args.cells.now c.fill_parts.new.cells c.fill_parts.ensures.cells c.args.slots.now
      c.requires.slots;
}

pub append_rest-requires-clause-rest : goal.append_rest-requires-clause-rest
append_rest-requires-clause-rest c = c.in_ok-rest.ensures.below

pub append_rest-requires-clause-parts : goal.append_rest-requires-clause-parts
append_rest-requires-clause-parts c = c.in_ok-args.ensures.below

pub returns-in_err-args-clause-cells : goal.returns-in_err-args-clause-cells
returns-in_err-args-clause-cells c = c.fill_parts.ensures.cells

pub returns-in_err-rest-clause-cells : goal.returns-in_err-rest-clause-cells
returns-in_err-rest-clause-cells c = c.fill_parts.ensures.cells

pub returns-in_err-tail-clause-cells : goal.returns-in_err-tail-clause-cells
returns-in_err-tail-clause-cells c = c.fill_parts.ensures.cells

pub returns-then-are_too_deep-clause-cells : goal.returns-then-are_too_deep-clause-cells
returns-then-are_too_deep-clause-cells c = c.fill_parts.ensures.cells

pub returns-in_err-name-clause-cells : goal.returns-in_err-name-clause-cells
returns-in_err-name-clause-cells c = c.fill_parts.ensures.cells

pub returns-clause-cells : goal.returns-clause-cells
returns-clause-cells c = c.fill_parts.ensures.cells

pub returns-clause-below : goal.returns-clause-below
returns-clause-below c = c.in_ok-tail.ensures.below
