use Rattle.std.proofs.Common.{◌≡◌, ◌++◌}
use Rattle.std.specs.Prelude.{reverse}
use Rattle.std.specs.List.{All}
use Rattle.hp_links.specs.Frames.{IsHeld, frame_in, tree_at}
use Rattle.hp_links.specs.Labelled.{leads}
use Rattle.hp_links.specs.Walked.{pending, weight}
use Rattle.hp_links.proofs.links.Links.first_tasks.Given as goal

abbrev pub invariant-loop-number : goal.invariant-loop-number
invariant-loop-number l = record {
  held : All (IsHeld (frame_in l.self)) l.stack.items;
  rest : l.found.items ++ pending (frame_in l.self) (reverse l.stack.items) ≡ leads (tree_at (frame_in l.self) l.start);
}

abbrev pub decreases-loop-number : goal.decreases-loop-number
decreases-loop-number l = weight (frame_in l.self) l.stack.items
