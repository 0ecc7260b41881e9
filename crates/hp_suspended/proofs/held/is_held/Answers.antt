use Rattle.std.proofs.Common.{subst, sym}
use Rattle.hp_syntax.specs.Terms.{Symbol, Listed, More}
use Rattle.hp_suspended.specs.HeldAtoms.{IsHeld}
use Rattle.hp_suspended.proofs.HeldCells.{placed_held, unnamed_held}
use Rattle.hp_suspended.proofs.held.is_held.Goals as goal

pub returns-in-Some : goal.returns-in-Some
returns-in-Some c = λ ts looks.
    let terms = c.args.cells.now in
    let places = c.args.world.now.now.places in
    let t = Listed (More (Symbol c.args.name.now) ts) in
    subst (λ b. IsHeld b terms places t) (sym c.is_some.ensures)
    (placed_held terms c.len.ensures.cells places t c.in-Some.atom (c.in-Some.ensures ts looks) c.place_of.result
    c.place_of.ensures)

pub returns-in-None : goal.returns-in-None
returns-in-None c = λ ts looks.
    unnamed_held c.args.cells.now c.args.world.now.now.places (Listed (More (Symbol c.args.name.now) ts))
    (c.in-None.ensures ts looks)
