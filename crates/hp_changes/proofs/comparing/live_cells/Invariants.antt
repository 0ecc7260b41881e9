use Rattle.std.proofs.Common.{◌≡◌, take}
use Rattle.hp_world.specs.Stages.{live_atoms}
use Rattle.hp_changes.proofs.comparing.live_cells.Given as goal

abbrev pub invariant-loop-place : goal.invariant-loop-place
invariant-loop-place l = l.atoms.items ≡ live_atoms (take l.place l.world.now.places)
