use Rattle.std.proofs.Common.{length, sym, ap, subst}
use Rattle.std.specs.List.{All}
use Rattle.hp_syntax.specs.Views.{key_of}
use Rattle.hp_syntax.specs.Preconditions.{keyed}
use Rattle.hp_eval.specs.Slotted.{undone}
use Rattle.hp_eval.specs.Events.{left_after}
use Rattle.hp_eval.proofs.SlotLemmas.{undone_start}
use Rattle.hp_pick.specs.Noted.{IsNoted, with_notes}
use Rattle.hp_pick.proofs.HearingSteps.{noted_grown, with_notes_grown, hears_same}
use Rattle.hp_pick.proofs.hearing.hear_next.Goals as goal

pub returns-clause-step : goal.returns-clause-step
returns-clause-step g c =
    let old = c.args.cells.now in
    let new = c.next.new.cells in
    let start = undone (g.S.Sats.start c.args.inner.now) c.args.slots.now in
    let k = key_of c.args.key.now in
    let xs = g.S.Sats.rest c.args.inner.now c.args.base.now old c.args.slots.now in
    let left = g.S.Sats.rest c.next.new.self c.args.base.now new c.next.new.slots in
    hears_same c.note.result _ _ _ _ _
    (with_notes_grown old new c.next.ensures.cells start c.args.notes.now (keyed k xs) c.requires.noted)
    (ap (λ ys. with_notes new c.note.new.notes (keyed k ys)) {x = left} {y = left_after xs}
    c.in_ok-event.ensures.rest)
    (c.note.ensures.step xs c.in_ok-event.ensures.event c.in_ok-event.ensures.sat)

pub returns-clause-noted : goal.returns-clause-noted
returns-clause-noted g c =
    let old = c.args.cells.now in
    let new = c.next.new.cells in
    let mark = g.S.Sats.start c.args.inner.now in
    let start = undone mark c.args.slots.now in
    let back = undone_start mark (g.S.Sats.start c.next.new.self) c.args.slots.now c.next.new.slots c.next.ensures.start
    (g.met.S.Sats.fits_hold c.args.inner.now c.args.slots.now c.requires.slots).0 c.next.ensures.above in
    subst (λ e. All (IsNoted (length new) e) c.note.new.notes.sats.items)
    (sym back)
    (c.note.ensures.noted start c.next.ensures.above
    (noted_grown old new c.next.ensures.cells start c.args.notes.now.sats.items c.requires.noted))

pub next-requires-clause-live : goal.next-requires-clause-live
next-requires-clause-live g c = c.requires.live

pub next-requires-clause-open : goal.next-requires-clause-open
next-requires-clause-open g c = c.requires.open

pub next-requires-clause-base : goal.next-requires-clause-base
next-requires-clause-base g c = c.requires.base

pub next-requires-clause-slots : goal.next-requires-clause-slots
next-requires-clause-slots g c = c.requires.slots

pub next-requires-clause-cells : goal.next-requires-clause-cells
next-requires-clause-cells g c = c.requires.cells

pub returns-in_err-event-clause-base : goal.returns-in_err-event-clause-base
returns-in_err-event-clause-base g c = c.next.ensures.base

pub returns-in_err-event-clause-slots : goal.returns-in_err-event-clause-slots
returns-in_err-event-clause-slots g c = c.next.ensures.slots

pub returns-in_err-event-clause-start : goal.returns-in_err-event-clause-start
returns-in_err-event-clause-start g c = c.next.ensures.start

pub returns-in_err-event-clause-kept : goal.returns-in_err-event-clause-kept
returns-in_err-event-clause-kept g c = c.next.ensures.kept

pub returns-in_err-event-clause-cells : goal.returns-in_err-event-clause-cells
returns-in_err-event-clause-cells g c = c.next.ensures.cells

pub returns-in_err-event-clause-open : goal.returns-in_err-event-clause-open
returns-in_err-event-clause-open g c = c.next.ensures.open

pub returns-clause-base : goal.returns-clause-base
returns-clause-base g c = c.next.ensures.base

pub returns-clause-slots : goal.returns-clause-slots
returns-clause-slots g c = c.next.ensures.slots

pub returns-clause-start : goal.returns-clause-start
returns-clause-start g c = c.next.ensures.start

pub returns-clause-kept : goal.returns-clause-kept
returns-clause-kept g c = c.next.ensures.kept

pub returns-clause-cells : goal.returns-clause-cells
returns-clause-cells g c = c.next.ensures.cells

pub returns-clause-open : goal.returns-clause-open
returns-clause-open g c = c.next.ensures.open

pub returns-in_err-event-clause-undone : goal.returns-in_err-event-clause-undone
returns-in_err-event-clause-undone g c =
    undone_start (g.S.Sats.start c.args.inner.now) (g.S.Sats.start c.next.new.self) c.args.slots.now c.next.new.slots
    c.next.ensures.start (g.met.S.Sats.fits_hold c.args.inner.now c.args.slots.now c.requires.slots).0
    c.next.ensures.above

pub returns-clause-undone : goal.returns-clause-undone
returns-clause-undone g c =
    undone_start (g.S.Sats.start c.args.inner.now) (g.S.Sats.start c.next.new.self) c.args.slots.now c.next.new.slots
    c.next.ensures.start (g.met.S.Sats.fits_hold c.args.inner.now c.args.slots.now c.requires.slots).0
    c.next.ensures.above

pub returns-in_err-event-clause-noted : goal.returns-in_err-event-clause-noted
returns-in_err-event-clause-noted g c =
    let old = c.args.cells.now in
    let new = c.next.new.cells in
    let mark = g.S.Sats.start c.args.inner.now in
    let start = undone mark c.args.slots.now in
    let back = undone_start mark (g.S.Sats.start c.next.new.self) c.args.slots.now c.next.new.slots c.next.ensures.start
    (g.met.S.Sats.fits_hold c.args.inner.now c.args.slots.now c.requires.slots).0 c.next.ensures.above in
    subst (λ e. All (IsNoted (length new) e) c.args.notes.now.sats.items)
    (sym back)
    (noted_grown old new c.next.ensures.cells start c.args.notes.now.sats.items c.requires.noted)
