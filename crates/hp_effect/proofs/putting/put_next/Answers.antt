use Rattle.std.proofs.Common.{◌≡◌, length, sym, ap, subst, ◌∙◌, arith}
use Rattle.hp_eval.specs.Events.{left_after}
use Rattle.hp_eval.proofs.GrowthLemmas.{grows_on, grows_length, kept_agree}
use Rattle.hp_eval.proofs.SlotLemmas.{undone_start}
use Rattle.hp_world.specs.Stages.{changes_of}
use Rattle.hp_effect.specs.Gathering.{PutsNext, each_going}
use Rattle.hp_effect.proofs.GatheringLemmas.{changes_stay, changes_grow}
use Rattle.hp_effect.proofs.putting.put_next.Goals as goal

pub next-requires-clause-live : goal.next-requires-clause-live
next-requires-clause-live g c = c.requires.live

pub next-requires-clause-open : goal.next-requires-clause-open
next-requires-clause-open g c = c.requires.open

pub next-requires-clause-base : goal.next-requires-clause-base
next-requires-clause-base g c = c.requires.base

pub next-requires-clause-slots : goal.next-requires-clause-slots
next-requires-clause-slots g c = c.requires.slots

pub next-requires-clause-cells : goal.next-requires-clause-cells
next-requires-clause-cells g c = c.requires.cells

pub put_event-requires-clause-slots : goal.put_event-requires-clause-slots
put_event-requires-clause-slots g c =
    let below = c.next.ensures.below in
    let kept = c.next.ensures.kept in
    λ v cell h. omega (arith, below v cell h, kept.1)

pub put_event-requires-clause-below : goal.put_event-requires-clause-below
put_event-requires-clause-below g c =
    changes_grow c.args.cells.now c.next.new.cells c.next.ensures.cells c.args.changes.now c.requires.below

pub returns-clause-puts : goal.returns-clause-puts
returns-clause-puts g c =
    let side = c.args.side in
    let old = c.args.cells.now in
    let between = c.next.new.cells in
    let new = c.put_event.new.cells in
    let as' = g.A.PutAtoms.atoms c.args.atoms.now in
    let changes = c.args.changes.now in
    let xs = g.S.Sats.rest c.args.sats.now c.args.base.now old c.args.slots.now in
    let sats = c.next.new.self in
    let slots = c.next.new.slots in
    let same = g.met.S.Sats.same_cells sats c.args.base.now between new slots c.next.ensures.base c.next.ensures.slots
    (kept_agree between new c.put_event.ensures.cells (g.S.Sats.kept sats) c.next.ensures.kept.1) in
    let left : each_going as' (left_after xs) ≡ each_going as' (g.S.Sats.rest sats c.args.base.now new slots)
    = ap (each_going as')
    (sym {a = g.S.Sats.rest sats c.args.base.now between slots} {b = left_after xs} c.in_ok-event.ensures.rest
    ∙ same) in
    let stay = changes_stay old between c.next.ensures.cells changes c.requires.below in
    let put = c.put_event.ensures.puts xs c.in_ok-event.ensures.event c.in_ok-event.ensures.sat in
    subst (λ o. PutsNext side c.put_event.result (each_going as' xs)
    (each_going as' (g.S.Sats.rest sats c.args.base.now new slots)) new o c.put_event.new.changes) stay
    (subst (λ l. PutsNext side c.put_event.result (each_going as' xs) l new (changes_of between changes)
    c.put_event.new.changes) left put)

pub returns-clause-fewer : goal.returns-clause-fewer
returns-clause-fewer g c =
    λ e.
    let old = c.args.cells.now in
    let between = c.next.new.cells in
    let new = c.put_event.new.cells in
    let xs = g.S.Sats.rest c.args.sats.now c.args.base.now old c.args.slots.now in
    let sats = c.next.new.self in
    let slots = c.next.new.slots in
    let same = g.met.S.Sats.same_cells sats c.args.base.now between new slots c.next.ensures.base c.next.ensures.slots
    (kept_agree between new c.put_event.ensures.cells (g.S.Sats.kept sats) c.next.ensures.kept.1) in
    let fewer = c.put_event.ensures.fewer xs c.in_ok-event.ensures.event e in
    let there = g.S.Sats.rest sats c.args.base.now between slots in
    let after = g.S.Sats.rest sats c.args.base.now new slots in
    omega (
      arith,
      fewer,
      ap length {x = there} {y = after} same,
      ap length {x = there} {y = left_after xs} c.in_ok-event.ensures.rest,
    )

pub returns-in_err-event-clause-base : goal.returns-in_err-event-clause-base
returns-in_err-event-clause-base g c = c.next.ensures.base

pub returns-in_err-event-clause-slots : goal.returns-in_err-event-clause-slots
returns-in_err-event-clause-slots g c = c.next.ensures.slots

pub returns-in_err-event-clause-start : goal.returns-in_err-event-clause-start
returns-in_err-event-clause-start g c = c.next.ensures.start

pub returns-in_err-event-clause-kept : goal.returns-in_err-event-clause-kept
returns-in_err-event-clause-kept g c = c.next.ensures.kept

pub returns-in_err-event-clause-cells : goal.returns-in_err-event-clause-cells
returns-in_err-event-clause-cells g c = c.next.ensures.cells

pub returns-in_err-event-clause-open : goal.returns-in_err-event-clause-open
returns-in_err-event-clause-open g c = c.next.ensures.open

pub returns-clause-base : goal.returns-clause-base
returns-clause-base g c =
    g.met.S.Sats.same_base c.next.new.self c.args.base.now c.next.new.cells c.put_event.new.cells c.next.ensures.base
    (kept_agree c.next.new.cells c.put_event.new.cells c.put_event.ensures.cells (g.S.Sats.kept c.next.new.self)
    c.next.ensures.kept.1)

pub returns-clause-slots : goal.returns-clause-slots
returns-clause-slots g c = c.next.ensures.slots

pub returns-clause-start : goal.returns-clause-start
returns-clause-start g c = c.next.ensures.start

pub returns-clause-kept : goal.returns-clause-kept
returns-clause-kept g c =
    let kept = c.next.ensures.kept in
    (kept.0, omega (arith, kept.1, grows_length c.next.new.cells c.put_event.new.cells c.put_event.ensures.cells))

pub returns-clause-cells : goal.returns-clause-cells
returns-clause-cells g c =
    grows_on c.args.cells.now c.next.new.cells c.put_event.new.cells c.next.ensures.cells c.put_event.ensures.cells

pub returns-clause-open : goal.returns-clause-open
returns-clause-open g c = c.next.ensures.open

pub returns-in_err-event-clause-undone : goal.returns-in_err-event-clause-undone
returns-in_err-event-clause-undone g c =
    undone_start (g.S.Sats.start c.args.sats.now) (g.S.Sats.start c.next.new.self) c.args.slots.now c.next.new.slots
    c.next.ensures.start (g.met.S.Sats.fits_hold c.args.sats.now c.args.slots.now c.requires.slots).0
    c.next.ensures.above

pub returns-clause-undone : goal.returns-clause-undone
returns-clause-undone g c =
    undone_start (g.S.Sats.start c.args.sats.now) (g.S.Sats.start c.next.new.self) c.args.slots.now c.next.new.slots
    c.next.ensures.start (g.met.S.Sats.fits_hold c.args.sats.now c.args.slots.now c.requires.slots).0
    c.next.ensures.above
