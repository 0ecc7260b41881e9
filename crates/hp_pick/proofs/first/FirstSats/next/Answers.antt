use Rattle.std.proofs.Common.{refl}
use Rattle.hp_eval.proofs.GrowthLemmas.{grows_self}
use Rattle.hp_pick.proofs.first.FirstSats.next.Goals as goal

pub next-requires-clause-live : goal.next-requires-clause-live
next-requires-clause-live g c = c.requires.live

pub next-requires-clause-open : goal.next-requires-clause-open
next-requires-clause-open g c = c.requires.open

pub next-requires-clause-base : goal.next-requires-clause-base
next-requires-clause-base g c = c.requires.base

pub next-requires-clause-slots : goal.next-requires-clause-slots
next-requires-clause-slots g c = c.requires.slots

pub next-requires-clause-cells : goal.next-requires-clause-cells
next-requires-clause-cells g c = c.requires.cells

pub returns-then-self-clause-base : goal.returns-then-self-clause-base
returns-then-self-clause-base g c = c.requires.base

pub returns-then-self-clause-slots : goal.returns-then-self-clause-slots
returns-then-self-clause-slots g c = c.requires.slots

pub returns-then-self-clause-start : goal.returns-then-self-clause-start
returns-then-self-clause-start g c = refl

pub returns-then-self-clause-cells : goal.returns-then-self-clause-cells
returns-then-self-clause-cells g c = grows_self c.args.cells.now

pub returns-then-self-clause-live : goal.returns-then-self-clause-live
returns-then-self-clause-live g c = c.requires.live

pub returns-then-self-clause-open : goal.returns-then-self-clause-open
returns-then-self-clause-open g c = c.requires.open

pub returns-in_err-event-clause-base : goal.returns-in_err-event-clause-base
returns-in_err-event-clause-base g c = c.next.ensures.base

pub returns-in_err-event-clause-slots : goal.returns-in_err-event-clause-slots
returns-in_err-event-clause-slots g c = c.next.ensures.slots

pub returns-in_err-event-clause-above : goal.returns-in_err-event-clause-above
returns-in_err-event-clause-above g c = c.next.ensures.above

pub returns-in_err-event-clause-below : goal.returns-in_err-event-clause-below
returns-in_err-event-clause-below g c = c.next.ensures.below

pub returns-in_err-event-clause-start : goal.returns-in_err-event-clause-start
returns-in_err-event-clause-start g c = c.next.ensures.start

pub returns-in_err-event-clause-kept : goal.returns-in_err-event-clause-kept
returns-in_err-event-clause-kept g c = c.next.ensures.kept

pub returns-in_err-event-clause-cells : goal.returns-in_err-event-clause-cells
returns-in_err-event-clause-cells g c = c.next.ensures.cells

pub returns-in_err-event-clause-open : goal.returns-in_err-event-clause-open
returns-in_err-event-clause-open g c = c.next.ensures.open

pub returns-clause-base : goal.returns-clause-base
returns-clause-base g c = c.next.ensures.base

pub returns-clause-slots : goal.returns-clause-slots
returns-clause-slots g c = c.next.ensures.slots

pub returns-clause-above : goal.returns-clause-above
returns-clause-above g c = c.next.ensures.above

pub returns-clause-below : goal.returns-clause-below
returns-clause-below g c = c.next.ensures.below

pub returns-clause-start : goal.returns-clause-start
returns-clause-start g c = c.next.ensures.start

pub returns-clause-kept : goal.returns-clause-kept
returns-clause-kept g c = c.next.ensures.kept

pub returns-clause-cells : goal.returns-clause-cells
returns-clause-cells g c = c.next.ensures.cells

pub returns-clause-open : goal.returns-clause-open
returns-clause-open g c = c.next.ensures.open

pub returns-clause-live : goal.returns-clause-live
returns-clause-live g c = c.in_ok-event.ensures.live
