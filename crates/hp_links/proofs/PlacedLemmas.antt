-- What the crate above needs of sound stores.
use Rattle.hp_links.specs.declared.store.Store.{Store}
use Rattle.hp_links.specs.Placed.{IsPlaced}
use Rattle.hp_links.specs.Undoing.{IsSound, stage_of}
use Rattle.hp_links.proofs.StageLemmas.{placed}
use Rattle.hp_links.proofs.TrailSteps.{stage_now}

-- the network of a sound store is in normal form with each number once, and its numbers name its parts
pub placed_from_sound : (s : Store) → IsSound s → IsPlaced (stage_of s)
placed_from_sound s h = placed (stage_of s) (stage_now s.trail.items (stage_of s) h)
