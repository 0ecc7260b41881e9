use Rattle.std.proofs.Common.{sym, ◌∙◌, arith}
use Rattle.hp_eval.proofs.GrowthLemmas.{grows_on}
use Rattle.hp_pick.proofs.hearing.hear.Goals as goal

pub hear_next-requires-clause-live : goal.hear_next-requires-clause-live
hear_next-requires-clause-live g c = c.loop-notes.invariant.live

pub hear_next-requires-clause-open : goal.hear_next-requires-clause-open
hear_next-requires-clause-open g c = c.loop-notes.invariant.still_open

pub hear_next-requires-clause-base : goal.hear_next-requires-clause-base
hear_next-requires-clause-base g c = c.loop-notes.invariant.base

pub hear_next-requires-clause-slots : goal.hear_next-requires-clause-slots
hear_next-requires-clause-slots g c = c.loop-notes.invariant.slots

pub hear_next-requires-clause-cells : goal.hear_next-requires-clause-cells
hear_next-requires-clause-cells g c = c.loop-notes.invariant.few

pub hear_next-requires-clause-noted : goal.hear_next-requires-clause-noted
hear_next-requires-clause-noted g c = c.loop-notes.invariant.noted

pub returns-in_err-hear_next-clause-slots : goal.returns-in_err-hear_next-clause-slots
returns-in_err-hear_next-clause-slots g c = c.hear_next.ensures.slots

pub returns-in_err-hear_next-clause-undone : goal.returns-in_err-hear_next-clause-undone
returns-in_err-hear_next-clause-undone g c = c.hear_next.ensures.undone ∙ c.loop-notes.invariant.same_below

pub returns-in_err-hear_next-clause-start : goal.returns-in_err-hear_next-clause-start
returns-in_err-hear_next-clause-start g c = c.hear_next.ensures.start ∙ c.loop-notes.invariant.start

pub returns-in_err-hear_next-clause-kept : goal.returns-in_err-hear_next-clause-kept
returns-in_err-hear_next-clause-kept g c =
    let kept = c.hear_next.ensures.kept in (omega (arith, c.loop-notes.invariant.kept, kept.0), kept.1)

pub returns-in_err-hear_next-clause-cells : goal.returns-in_err-hear_next-clause-cells
returns-in_err-hear_next-clause-cells g c =
    grows_on c.args.cells.now c.loop-notes.cells c.hear_next.new.cells c.loop-notes.invariant.grown
    c.hear_next.ensures.cells

pub returns-in_err-hear_next-clause-open : goal.returns-in_err-hear_next-clause-open
returns-in_err-hear_next-clause-open g c = c.hear_next.ensures.open

pub returns-clause-slots : goal.returns-clause-slots
returns-clause-slots g c = c.hear_next.ensures.slots

pub returns-clause-undone : goal.returns-clause-undone
returns-clause-undone g c = c.hear_next.ensures.undone ∙ c.loop-notes.invariant.same_below

pub returns-clause-start : goal.returns-clause-start
returns-clause-start g c = c.hear_next.ensures.start ∙ c.loop-notes.invariant.start

pub returns-clause-kept : goal.returns-clause-kept
returns-clause-kept g c =
    let kept = c.hear_next.ensures.kept in (omega (arith, c.loop-notes.invariant.kept, kept.0), kept.1)

pub returns-clause-cells : goal.returns-clause-cells
returns-clause-cells g c =
    grows_on c.args.cells.now c.loop-notes.cells c.hear_next.new.cells c.loop-notes.invariant.grown
    c.hear_next.ensures.cells

pub returns-clause-open : goal.returns-clause-open
returns-clause-open g c = c.hear_next.ensures.open

pub returns-clause-noted : goal.returns-clause-noted
returns-clause-noted g c = c.hear_next.ensures.noted

pub loop-notes-preserved : goal.loop-notes-preserved
loop-notes-preserved g c =
    let held = c.loop-notes.invariant in
    let next = c.hear_next.ensures in
    let kept = next.kept in
    let step = rw c.if-branch.true at c.in_ok-hear_next.ensures.step in
    record {
      heard = sym step ∙ held.heard;
      noted = next.noted;
      live = c.in_ok-hear_next.ensures.live;
      still_open = next.open;
      base = next.base;
      slots = next.slots;
      same_below = next.undone ∙ held.same_below;
      start = next.start ∙ held.start;
      kept = omega (arith, held.kept, kept.0);
      few = kept.1;
      grown = grows_on c.args.cells.now c.loop-notes.cells c.hear_next.new.cells held.grown next.cells;
    }
