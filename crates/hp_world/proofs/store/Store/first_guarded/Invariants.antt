use Rattle.std.proofs.Common.{◌≡◌, drop}
use Rattle.hp_syntax.specs.Applying.{first_guarded}
use Rattle.hp_world.specs.Stages.{same_cell}
use Rattle.hp_world.proofs.store.Store.first_guarded.Given as goal

abbrev pub invariant-loop-atom : goal.invariant-loop-atom
invariant-loop-atom l =
    first_guarded same_cell l.self.guards.items (drop l.atom-index l.atoms)
    ≡ first_guarded same_cell l.self.guards.items l.atoms
