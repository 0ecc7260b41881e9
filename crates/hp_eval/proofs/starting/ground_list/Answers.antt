use Rattle.std.proofs.Common.{◌<◌, ap, sym, ◌∙◌, length, arith}
use Rattle.std.specs.Option.{option_and_then}
use Rattle.hp_syntax.specs.Terms.{Listed, NoTerm, More}
use Rattle.hp_eval.specs.GoalViews.{term_at, fillings_of}
use Rattle.hp_eval.specs.FillSteps.{parts_at}
use Rattle.hp_cells.specs.Keys.{parts_of}
use Rattle.hp_eval.proofs.GrowthLemmas.{grows_self, grows_length, grows_on, grows_same}
use Rattle.hp_eval.proofs.CellViews.{at_named, names_parts}
use Rattle.hp_eval.proofs.ListSteps.{interns_grows}
use Rattle.hp_eval.proofs.StartingSteps.{ground_onto, ground_onto_none, ground_last, grows_names, last_below, prefix_below}
use Rattle.hp_eval.proofs.starting.ground_list.Goals as goal

pub loop-last-init : goal.loop-last-init
loop-last-init c =
    let old = c.args.cells.now in
    let fs = fillings_of old c.args.parts.now in
    record {
      list = (NoTerm, c.nil-list.ensures.names);
      grows = grows_self old;
      below = c.requires.parts;
      so_far =
          ap (λ t. ground_onto fs (parts_of t))
          (at_named old c.nil-list.result (Listed NoTerm) c.nil-list.ensures.names)
          ∙ ground_onto_none fs;
    }

pub returns-in_default-known_cell-clause-list : goal.returns-in_default-known_cell-clause-list
returns-in_default-known_cell-clause-list c =
    let old = c.args.cells.now in
    let behind = parts_at c.loop-last.cells c.loop-last.list in
    let before = c.in-Some.before.now in
    let part = c.in-Some.last.now in
    sym c.loop-last.invariant.so_far
    ∙ (ap (λ fs. ground_onto (fillings_of old fs) behind) c.in-Some.ensures.cases.0
    ∙ (ground_last old before part behind
    ∙ ap (option_and_then (λ t. ground_onto (fillings_of old before) (More t behind)))
    (c.in_default-known_cell.ensures.term old)))

pub cons-requires-clause-head : goal.cons-requires-clause-head
cons-requires-clause-head c =
    let old = c.args.cells.now in
    let part = c.in-Some.last.now in
    let below = last_below (length old) c.in-Some.before.now part c.loop-last.left.now c.in-Some.ensures.cases.0
    c.loop-last.invariant.below in
    let cell = c.in-Some-known_cell.ensures.below (length old) below in
    let grows = grows_length old c.loop-last.cells c.loop-last.invariant.grows in
    omega arith

pub loop-last-preserved : goal.loop-last-preserved
loop-last-preserved c =
    let old = c.args.cells.now in
    let cells = c.loop-last.cells in
    let new = c.cons.new.self in
    let held = c.loop-last.invariant in
    let before = c.in-Some.before.now in
    let part = c.in-Some.last.now in
    let cell = c.in-Some-known_cell.cell in
    let behind = parts_at cells c.loop-last.list in
    let within : cell < length old =
    c.in-Some-known_cell.ensures.below (length old)
    (last_below (length old) before part c.loop-last.left.now c.in-Some.ensures.cases.0 held.below) in
    let interns =
    c.in_ok-list.ensures.ok (term_at old cell) behind
    (grows_names old cells cell held.grows within) (names_parts cells c.loop-last.list held.list) in
    record {
      list = (More (term_at old cell) behind, interns.names);
      grows = grows_on old cells new held.grows
          (interns_grows (Listed (More (term_at old cell) behind)) c.in_ok-list.list cells new interns);
      below = prefix_below (length old) before part c.loop-last.left.now c.in-Some.ensures.cases.0 held.below;
      so_far =
          ap (λ t. ground_onto (fillings_of old before) (parts_of t)) (at_named new c.in_ok-list.list _ interns.names)
          ∙ (sym (ap (λ fs. ground_onto (fillings_of old fs) behind) c.in-Some.ensures.cases.0
          ∙ (ground_last old before part behind
          ∙ ap (option_and_then (λ t. ground_onto (fillings_of old before) (More t behind)))
          (c.in-Some-known_cell.ensures.term old)))
          ∙ held.so_far);
    }

pub cons-requires-clause-tail : goal.cons-requires-clause-tail
cons-requires-clause-tail c = c.loop-last.invariant.list

pub returns-then-not-are_known-clause-cells : goal.returns-then-not-are_known-clause-cells
returns-then-not-are_known-clause-cells c = grows_self c.args.cells.now

pub returns-in_default-known_cell-clause-cells : goal.returns-in_default-known_cell-clause-cells
returns-in_default-known_cell-clause-cells c = c.loop-last.invariant.grows

pub returns-in_err-list-clause-cells : goal.returns-in_err-list-clause-cells
returns-in_err-list-clause-cells c =
    grows_on c.args.cells.now c.loop-last.cells c.cons.new.self c.loop-last.invariant.grows
    (grows_same c.loop-last.cells c.cons.new.self c.in_err-list.ensures.err)

pub returns-clause-cells : goal.returns-clause-cells
returns-clause-cells c = c.loop-last.invariant.grows
