use Rattle.std.proofs.Common.{◌++◌}
use Rattle.std.specs.Prelude.{option_to_list}
use Rattle.hp_links.specs.Frames.{frame_in, tree_at}
use Rattle.hp_links.specs.Labelled.{leads}
use Rattle.hp_links.specs.Walked.{left_to_walk, weight}
use Rattle.hp_links.proofs.CandidateLemmas.{Walks}
use Rattle.hp_links.proofs.links.Links.first_candidates.Given as goal

abbrev pub invariant-loop-next : goal.invariant-loop-next
invariant-loop-next l = record {
  walks : Walks (frame_in l.self) (leads (tree_at (frame_in l.self) l.start)) l.limit l.next l.rest.items l.gathered;
}

abbrev pub decreases-loop-next : goal.decreases-loop-next
decreases-loop-next l =
    weight (frame_in l.self) (option_to_list l.next ++ left_to_walk l.self.rows.items l.rest.items)
