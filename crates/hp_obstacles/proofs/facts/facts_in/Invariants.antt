use Rattle.std.proofs.Common.{◌≡◌, take}
use Rattle.hp_world.specs.Stages.{live_atoms, terms_at}
use Rattle.hp_obstacles.specs.Facts.{facts_of, kept, shown}
use Rattle.hp_obstacles.proofs.facts.facts_in.Given as goal

abbrev pub invariant-loop-place : goal.invariant-loop-place
invariant-loop-place l =
    kept l.facts ≡ shown (facts_of l.name (terms_at l.cells (live_atoms (take l.place l.world.now.places))))
