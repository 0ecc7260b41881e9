use Rattle.std.proofs.lemmas.Result.{err_from_is_err_and}
use Rattle.std.proofs.lemmas.List.Sorted.{All-permutation}
use Rattle.hp_syntax.specs.Views.{key_of}
use Rattle.hp_pick.specs.Noted.{IsNoted}
use Rattle.std.proofs.Common.{length}
use Rattle.hp_pick.proofs.HearingSteps.{stops_in_order, heard_in_order}
use Rattle.hp_pick.proofs.hearing.hear_in_order.Goals as goal

pub hear_whole-requires-clause-live : goal.hear_whole-requires-clause-live
hear_whole-requires-clause-live g c = c.requires.live

pub hear_whole-requires-clause-open : goal.hear_whole-requires-clause-open
hear_whole-requires-clause-open g c = c.requires.open

pub hear_whole-requires-clause-base : goal.hear_whole-requires-clause-base
hear_whole-requires-clause-base g c = c.requires.base

pub hear_whole-requires-clause-slots : goal.hear_whole-requires-clause-slots
hear_whole-requires-clause-slots g c = c.requires.slots

pub hear_whole-requires-clause-cells : goal.hear_whole-requires-clause-cells
hear_whole-requires-clause-cells g c = c.requires.cells

pub returns-in_err-notes-clause-below : goal.returns-in_err-notes-clause-below
returns-in_err-notes-clause-below g c = c.hear_whole.ensures.below

pub returns-in_err-notes-clause-slots : goal.returns-in_err-notes-clause-slots
returns-in_err-notes-clause-slots g c = c.hear_whole.ensures.slots

pub returns-in_err-notes-clause-kept : goal.returns-in_err-notes-clause-kept
returns-in_err-notes-clause-kept g c = c.hear_whole.ensures.kept

pub returns-in_err-notes-clause-cells : goal.returns-in_err-notes-clause-cells
returns-in_err-notes-clause-cells g c = c.hear_whole.ensures.cells

pub returns-in_err-sort-clause-below : goal.returns-in_err-sort-clause-below
returns-in_err-sort-clause-below g c = c.hear_whole.ensures.below

pub returns-in_err-sort-clause-slots : goal.returns-in_err-sort-clause-slots
returns-in_err-sort-clause-slots g c = c.hear_whole.ensures.slots

pub returns-in_err-sort-clause-kept : goal.returns-in_err-sort-clause-kept
returns-in_err-sort-clause-kept g c = c.hear_whole.ensures.kept

pub returns-in_err-sort-clause-cells : goal.returns-in_err-sort-clause-cells
returns-in_err-sort-clause-cells g c = c.hear_whole.ensures.cells

pub returns-clause-below : goal.returns-clause-below
returns-clause-below g c = c.hear_whole.ensures.below

pub returns-clause-slots : goal.returns-clause-slots
returns-clause-slots g c = c.hear_whole.ensures.slots

pub returns-clause-kept : goal.returns-clause-kept
returns-clause-kept g c = c.hear_whole.ensures.kept

pub returns-clause-cells : goal.returns-clause-cells
returns-clause-cells g c = c.hear_whole.ensures.cells

pub returns-in_err-notes-clause-heard : goal.returns-in_err-notes-clause-heard
returns-in_err-notes-clause-heard g c =
    let p = err_from_is_err_and c.from_residual.result c.from_residual.ensures.1 in
    rw (p.1, p.2)
    (stops_in_order c.hear_whole.new.cells (key_of c.args.key.now).order c.in_err-notes.field-0.0 _
    c.in_err-notes.ensures.heard)

pub returns-clause-heard : goal.returns-clause-heard
returns-clause-heard g c =
    let cells = c.hear_whole.new.cells in
    heard_in_order cells (key_of c.args.key.now).order c.in_ok-notes.notes _ c.sort.new.sats.items
    c.in_ok-notes.ensures.heard (c.in_ok-sort.ensures.sorted cells)

pub returns-clause-noted : goal.returns-clause-noted
returns-clause-noted g c =
    All-permutation (IsNoted (length c.hear_whole.new.cells) c.hear_whole.new.slots) c.in_ok-notes.notes.sats.items
    c.sort.new.sats.items c.sort.ensures.permutation c.in_ok-notes.ensures.noted
