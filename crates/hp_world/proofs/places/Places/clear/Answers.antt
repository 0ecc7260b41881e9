use Rattle.std.proofs.Common.{◌<◌, subst, arith}
use Rattle.hp_world.specs.Indexed.{Row}
use Rattle.hp_world.proofs.IndexedLemmas.{atom_in_row}
use Rattle.hp_world.proofs.places.Places.clear.Goals as goal

pub index_mut-requires-2 : goal.index_mut-requires-2
index_mut-requires-2 c =
    let l =
    atom_in_row c.self.inside _ c.args.place c.args.atom c.self.invariant c.self.view_is c.requires in
    omega (arith, l, c.index.ensures, c.self.inside.table.ok.0)

pub returns-clause-within : goal.returns-clause-within
returns-clause-within c =
    subst (λ (r : Row). c.args.atom < r.width) c.self.view_is
    (atom_in_row c.self.inside _ c.args.place c.args.atom c.self.invariant c.self.view_is c.requires)
