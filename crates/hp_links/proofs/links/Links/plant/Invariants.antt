use Rattle.std.proofs.Common.{ℕ, ◌≤◌, length}
use Rattle.std.specs.List.{All}
use Rattle.hp_links.specs.Entries.{EntryBelow}
use Rattle.hp_links.specs.Linked.{PartBelow}
use Rattle.hp_links.specs.Frames.{frame_in}
use Rattle.hp_links.specs.Planted.{Planting}
use Rattle.hp_links.proofs.links.Links.plant.Given as goal

abbrev pub invariant-loop-at : goal.invariant-loop-at
invariant-loop-at l = record {
  within : l.at ≤ length l.entries;
  planting : Planting l.entries l.at l.roots.items (frame_in l.fn.self) (frame_in l.self);
  below : (k : ℕ) → All (EntryBelow k) l.entries → All (PartBelow k) l.fn.self.parts.items
      → All (PartBelow k) l.self.parts.items;
}

abbrev pub decreases-loop-at : goal.decreases-loop-at
decreases-loop-at l = l.at
