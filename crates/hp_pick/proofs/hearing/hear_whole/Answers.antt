use Rattle.std.proofs.Common.{IfOk, length, sym, subst}
use Rattle.std.specs.List.{All}
use Rattle.hp_pick.specs.Noted.{IsNoted}
use Rattle.hp_pick.proofs.HearingSteps.{below_undone_more}
use Rattle.hp_pick.proofs.hearing.hear_whole.Goals as goal

pub returns-clause-noted : goal.returns-clause-noted
returns-clause-noted g c =
    let count = length c.hear-heard.new.cells in
    subst (λ e. IfOk c.hear-heard.result (λ notes. All (IsNoted count e) notes.sats.items)) (sym c.close.ensures.slots)
    c.hear-heard.ensures.noted

pub returns-clause-below : goal.returns-clause-below
returns-clause-below g c =
    let inner = c.hear-heard.new.inner in
    let slots = c.hear-heard.new.slots in
    below_undone_more (g.S.Sats.kept inner) (length c.hear-heard.new.cells) (g.S.Sats.start inner) slots
    c.close.new.slots (g.met.S.Sats.fits_hold inner slots c.hear-heard.ensures.slots).1
    c.hear-heard.ensures.kept.1 c.close.ensures.slots
