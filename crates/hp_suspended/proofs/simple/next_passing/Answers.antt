use Rattle.hp_suspended.proofs.FilterLemmas.{next_named, next_with}
use Rattle.hp_suspended.proofs.simple.next_passing.Goals as goal

pub returns-in-Some : goal.returns-in-Some
returns-in-Some c =
    next_with c.args.cells.now c.args.filter.now c.args.world.now.now.places c.requires.atoms c.requires.filter
    c.in-Some.part c.in-Some.is c.args.from c.next_with.result c.next_with.ensures

pub returns-in-None : goal.returns-in-None
returns-in-None c =
    next_named c.args.cells.now c.args.filter.now c.args.world.now.now.places c.requires.atoms c.requires.filter
    c.in-None.is c.args.from c.next_named.result c.next_named.ensures
