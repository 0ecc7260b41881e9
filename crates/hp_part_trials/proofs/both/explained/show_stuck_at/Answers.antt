use Rattle.std.proofs.Common.{List, ℕ, sym, subst}
use Rattle.hp_dead_ends.specs.Arriving.{IsHeld}
use Rattle.hp_net.specs.Standings.{Tree}
use Rattle.hp_search.specs.Planned.{tree_planned}
use Rattle.hp_part_trials.proofs.both.explained.show_stuck_at.Goals as goal

pub go_to-requires-clause-held : goal.go_to-requires-clause-held
go_to-requires-clause-held c =
    subst (λ (p : List ℕ). IsHeld (tree_planned c.in_ok-walk.walk) p) (sym c.as_slice.ensures.value)
    (subst (λ (t : Tree). IsHeld t c.args.end.now.path.items) (sym c.in_ok-walk.ensures.tree) c.requires.held)
