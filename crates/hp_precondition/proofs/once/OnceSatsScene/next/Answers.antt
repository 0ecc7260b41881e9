use Rattle.std.proofs.Common.{[], ◌∷◌, cond, ap, sym, subst}
use Rattle.hp_syntax.specs.Events.{Sat}
use Rattle.hp_eval.specs.Events.{left_after}
use Rattle.hp_eval.specs.Slotted.{AreBelow, bindings_of, undone}
use Rattle.hp_eval.proofs.SlotLemmas.{below_undone}
use Rattle.hp_precondition.specs.OnceLaws.{FitsOnce, fits_undone}
use Rattle.hp_precondition.proofs.once.OnceSatsScene.next.Goals as goal

pub returns-then-self-clause-slots : goal.returns-then-self-clause-slots
returns-then-self-clause-slots c =
    subst (FitsOnce c.args.self.now) (sym c.undo_to.ensures)
    (fits_undone c.args.self.now c.args.slots.now c.requires.slots)

pub returns-then-self-clause-below : goal.returns-then-self-clause-below
returns-then-self-clause-below c =
    subst (AreBelow c.args.self.now.kept) (sym c.undo_to.ensures)
    (below_undone c.args.self.now.kept c.args.self.now.mark c.args.slots.now c.requires.slots.1)

pub returns-clause-rest : goal.returns-clause-rest
returns-clause-rest c =
    let start = bindings_of c.args.cells.now (undone c.args.self.now.mark c.args.slots.now) in
    sym (ap (λ given. left_after (cond given [] (Sat start ∷ []))) c.if-self.false)

pub returns-clause-slots : goal.returns-clause-slots
returns-clause-slots c =
    subst (FitsOnce c.args.self.now) (sym c.undo_to.ensures)
    (fits_undone c.args.self.now c.args.slots.now c.requires.slots)

pub returns-clause-below : goal.returns-clause-below
returns-clause-below c =
    subst (AreBelow c.args.self.now.kept) (sym c.undo_to.ensures)
    (below_undone c.args.self.now.kept c.args.self.now.mark c.args.slots.now c.requires.slots.1)
