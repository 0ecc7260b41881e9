use Rattle.std.proofs.Common.{sym, ap, ◌∙◌, subst}
use Rattle.hp_eval.specs.Slotted.{AreBelow, Binds}
use Rattle.hp_eval.specs.Events.{event_of, left_after}
use Rattle.hp_satisfiers.specs.Listed.{left_from}
use Rattle.hp_satisfiers.proofs.ListedLemmas.{start_fits, given_fits}
use Rattle.hp_satisfiers.proofs.listed.ListedSatsUnit.next.Goals as goal

pub give-event-requires-clause-fit : goal.give-event-requires-clause-fit
give-event-requires-clause-fit c =
    let self = c.args.self.now in (
      self.kept,
      start_fits self.kept self.found.items c.args.slots.now c.requires.slots c.undo_to.new.self
          c.as_slice.result.now c.undo_to.ensures c.as_slice.ensures.value,
    )

pub returns-clause-event : goal.returns-clause-event
returns-clause-event c =
    let self = c.args.self.now in
    c.give-event.ensures.event c.args._cells.now
    ∙ ap (λ xs. event_of (left_from c.args._cells.now xs self.place)) c.as_slice.ensures.value

pub returns-clause-rest : goal.returns-clause-rest
returns-clause-rest c =
    let self = c.args.self.now in
    let terms = c.args._cells.now in
    sym (ap (λ xs. left_from terms xs c.give-event.new.place) c.as_slice.ensures.value)
    ∙ (c.give-event.ensures.rest terms
    ∙ ap (λ xs. left_after (left_from terms xs self.place)) c.as_slice.ensures.value)

pub returns-clause-slots : goal.returns-clause-slots
returns-clause-slots c =
    let self = c.args.self.now in
    let slots = c.give-event.new.slots in
    let fit =
    start_fits self.kept self.found.items c.args.slots.now c.requires.slots c.undo_to.new.self
    c.as_slice.result.now c.undo_to.ensures c.as_slice.ensures.value in
    given_fits self.kept self.found.items c.args.slots.now c.requires.slots slots
    (subst (λ s. Binds s slots) c.undo_to.ensures c.give-event.ensures.above)
    (c.give-event.ensures.below self.kept fit)

pub returns-clause-below : goal.returns-clause-below
returns-clause-below c =
    let self = c.args.self.now in
    let below : AreBelow self.kept c.give-event.new.slots =
    c.give-event.ensures.below self.kept
    (start_fits self.kept self.found.items c.args.slots.now c.requires.slots c.undo_to.new.self
    c.as_slice.result.now c.undo_to.ensures c.as_slice.ensures.value) in
    below
