use Rattle.std.proofs.Common.{◌≤◌, ◌<◌, ℕ}
use Rattle.hp_world.specs.Named.{IsNamedAt}
use Rattle.hp_world.proofs.store.Store.next_of.Given as goal

abbrev pub invariant-loop-place : goal.invariant-loop-place
invariant-loop-place l =
    (j : ℕ) → l.from ≤ j → j < l.place → IsNamedAt l.cells l.name l.self.places.places j → ⊥
