use Rattle.std.proofs.Common.{◌≡◌, ◌-◌, length}
use Rattle.hp_links.specs.Frames.{IsHeld, frame_in, tree_at}
use Rattle.hp_links.specs.Labelled.{front_of}
use Rattle.hp_links.proofs.links.Links.front_below.Given as goal

abbrev pub invariant-loop-next : goal.invariant-loop-next
invariant-loop-next l = record {
  held : IsHeld (frame_in l.self) l.front;
  front : front_of (tree_at (frame_in l.self) l.front) ≡ front_of (tree_at (frame_in l.self) l.part);
}

abbrev pub decreases-loop-next : goal.decreases-loop-next
decreases-loop-next l = length l.self.parts.items - l.front
