use Rattle.std.proofs.Common.{subst, ◌++◌, Option, ℕ}
use Rattle.std.specs.List.{All}
use Rattle.std.specs.Prelude.{option_to_list}
use Rattle.hp_links.specs.Frames.{IsHeld, frame_in}
use Rattle.hp_links.specs.Walked.{left_to_walk}
use Rattle.hp_links.proofs.links.Links.first_candidates.Goals as goal

pub first_below-requires-clause-held : goal.first_below-requires-clause-held
first_below-requires-clause-held c =
    let f = frame_in c.args.self.now in
    subst (λ (o : Option ℕ). All (IsHeld f) (option_to_list o ++ left_to_walk f.rows c.loop-next.rest.items))
    c.in-Some.is c.loop-next.invariant.walks.held
