use Rattle.std.proofs.Common.{◌↔◌, Some, None, IsTrue, length, subst, sym}
use Rattle.std.proofs.lemmas.Option.{get_or_from_slice_get}
use Rattle.hp_world.specs.Named.{IsNamedWithAt}
use Rattle.hp_world.specs.Recorded.{Recorded}
use Rattle.hp_world.specs.Stages.{AllBelow, live_atoms}
use Rattle.hp_world.proofs.StageLemmas.{atom_below}
use Rattle.hp_world.proofs.world.World.is_at.Goals as goal

pub has_parts-requires : goal.has_parts-requires
has_parts-requires c =
    let places = c.self.inside.store.places.places in
    let below =
    subst (λ (w : Recorded). AllBelow (length c.args.cells.now) (live_atoms w.now.places)) (sym c.self.view_is)
    c.requires.atoms in
    atom_below (length c.args.cells.now) places c.args.place c.in-Some.atom below
    (get_or_from_slice_get places c.args.place (Some c.in-Some.atom) None c.in-Some.ensures)

pub returns-in-Some : goal.returns-in-Some
returns-in-Some c =
    subst (λ (w : Recorded). IsTrue c.has_parts.result ↔ IsNamedWithAt c.args.cells.now c.args.name c.args.part
    c.args.argument w.now.places c.args.place) c.self.view_is
    (c.has_parts.ensures c.self.inside.store.places.places c.args.place c.in-Some.ensures)
