use Rattle.std.proofs.Common.{subst, sym}
use Rattle.hp_eval.specs.Slotted.{Binds, AreBelow}
use Rattle.hp_eval.proofs.SlotLemmas.{below_undone}
use Rattle.hp_pick.proofs.HeardLemmas.{fits_above}
use Rattle.hp_pick.proofs.heard.Heard.give.Goals as goal

pub returns-clause-fits : goal.returns-clause-fits
returns-clause-fits c =
    let old = c.args.self.now in
    let slots = c.args.slots.now in
    let mark = c.args.mark in
    fits_above mark old c.give_next.new.self slots c.give_next.new.slots c.requires.fits
    (subst (λ s. Binds s c.give_next.new.slots) c.undo_to.ensures c.give_next.ensures.above)
    (c.give_next.ensures.below
    (subst (AreBelow old.kept) (sym c.undo_to.ensures) (below_undone old.kept mark slots c.requires.fits.below)))
    c.give_next.ensures.sats c.give_next.ensures.kept
