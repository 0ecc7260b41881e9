use Rattle.hp_suspended.proofs.NextPlaceLemmas.{none_named}
use Rattle.hp_suspended.proofs.places.next_place.Goals as goal

pub returns-in-None : goal.returns-in-None
returns-in-None c = λ i l m.
    none_named c.args.cells.now c.args.goal.now c.args.world.now.now.places c.requires.atoms c.len.ensures.cells
    c.in-None.ensures i m
