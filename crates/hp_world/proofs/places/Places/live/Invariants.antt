use Rattle.std.proofs.Common.{◌≡◌, ◌≤◌, length, take}
use Rattle.hp_world.specs.Stages.{live_atoms}
use Rattle.hp_world.proofs.places.Places.live.Given as goal

abbrev pub invariant-loop-place : goal.invariant-loop-place
invariant-loop-place l =
    (l.count ≡ length (live_atoms (take l.place-index l.place-items))) × (l.count ≤ l.place-index)
