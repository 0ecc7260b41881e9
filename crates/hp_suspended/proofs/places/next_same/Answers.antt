use Rattle.hp_suspended.proofs.GroundLemmas.{ground_parts_of}
use Rattle.hp_suspended.proofs.NextPlaceLemmas.{next_same, none_same}
use Rattle.hp_suspended.proofs.places.next_same.Goals as goal

pub returns-in-Some : goal.returns-in-Some
returns-in-Some c =
    let terms = c.args.cells.now in
    let q = c.args.goal.now in
    let g = ground_parts_of terms q c.requires.ground in
    next_same terms q c.args.world.now.now.places c.requires.atoms g.0 g.1 c.in-Some.ensures.cells c.in-Some.atom
    (c.in-Some.ensures.atom g.0 g.1) c.args.from c.place_from.result c.place_from.ensures

pub returns-in-None : goal.returns-in-None
returns-in-None c = λ i l.
    let terms = c.args.cells.now in
    let q = c.args.goal.now in
    let g = ground_parts_of terms q c.requires.ground in
    none_same terms q c.args.world.now.now.places c.requires.atoms g.0 g.1 (c.in-None.ensures.atom g.0 g.1) i
