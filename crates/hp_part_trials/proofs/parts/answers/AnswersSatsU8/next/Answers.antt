use Rattle.std.proofs.Common.{ap, ◌∙◌, drop}
use Rattle.hp_eval.specs.Slotted.{undone}
use Rattle.hp_part_trials.specs.Answered.{answered, first_of}
use Rattle.hp_part_trials.proofs.AnswerLemmas.{told_above, told_undone, told_below, told_fits}
use Rattle.hp_part_trials.proofs.parts.answers.AnswersSatsU8.next.Goals as goal

pub returns-clause-rest : goal.returns-clause-rest
returns-clause-rest c =
    let self = c.args.self.now in
    let terms = c.args._cells.now in
    let fits = c.requires.slots in
    let slots = c.args.slots.now in
    rw (c.tell-event.ensures.slots, c.undo_to.ensures, c.left.ensures, c.as_slice-answers.ensures.value)
    (ap (λ s. answered terms s self.var (drop c.place_behind-self.result self.answers.items))
    (told_undone self.var self.mark self.kept slots (first_of (drop self.place self.answers.items)) fits.above
    fits.unbound)
    ∙ rw c.as_slice-answers.ensures.value at (c.place_behind-self.ensures.rest terms (undone self.mark slots) self.var))

pub returns-clause-slots : goal.returns-clause-slots
returns-clause-slots c =
    let self = c.args.self.now in
    let fits = c.requires.slots in
    let xs = drop self.place self.answers.items in
    rw (c.tell-event.ensures.slots, c.undo_to.ensures, c.left.ensures, c.as_slice-answers.ensures.value)
    (told_fits self.var self.mark self.kept c.args.slots.now xs (drop c.place_behind-self.result self.answers.items)
    fits (rw c.as_slice-answers.ensures.value at c.place_behind-self.ensures.below self.kept fits.own))

pub returns-clause-above : goal.returns-clause-above
returns-clause-above c =
    let self = c.args.self.now in
    rw (c.tell-event.ensures.slots, c.undo_to.ensures, c.left.ensures, c.as_slice-answers.ensures.value)
    (told_above self.var self.mark self.kept c.args.slots.now (first_of (drop self.place self.answers.items))
    c.requires.slots.unbound)

pub returns-clause-below : goal.returns-clause-below
returns-clause-below c =
    let self = c.args.self.now in
    rw (c.tell-event.ensures.slots, c.undo_to.ensures, c.left.ensures, c.as_slice-answers.ensures.value)
    (told_below self.var self.mark self.kept c.args.slots.now (drop self.place self.answers.items) c.requires.slots.own
    c.requires.slots.start)
