use Rattle.std.proofs.Common.{◌≡◌, ◌≤◌, ◌∷◌, length}
use Rattle.std.specs.List.{All}
use Rattle.hp_links.specs.Frames.{IsHeld, frame_in}
use Rattle.hp_links.specs.Walked.{IsStretch, left_to_walk, pending, weight}
use Rattle.hp_links.proofs.links.Links.first_below.Given as goal

abbrev pub invariant-loop-order : goal.invariant-loop-order
invariant-loop-order l = record {
  held : All (IsHeld (frame_in l.self)) (l.number ∷ left_to_walk l.self.rows.items l.rest.items);
  within : All (IsStretch (length l.self.rows.items)) l.rest.items;
  same : pending (frame_in l.self) (l.number ∷ left_to_walk l.self.rows.items l.rest.items)
      ≡ pending (frame_in l.self) (l.part ∷ left_to_walk l.self.rows.items l.fn.rest.items);
  less : weight (frame_in l.self) (l.number ∷ left_to_walk l.self.rows.items l.rest.items)
      ≤ weight (frame_in l.self) (l.part ∷ left_to_walk l.self.rows.items l.fn.rest.items);
}

abbrev pub decreases-loop-order : goal.decreases-loop-order
decreases-loop-order l = weight (frame_in l.self) (l.number ∷ left_to_walk l.self.rows.items l.rest.items)
