use Rattle.std.proofs.Common.{ap, subst}
use Rattle.std.proofs.lemmas.Result.{IfOk-weaker}
use Rattle.std.specs.List.{All}
use Rattle.hp_dead_ends.specs.Arriving.{IsHeld}
use Rattle.hp_net.specs.Standings.{Tree}
use Rattle.hp_syntax.specs.Walk.{root}
use Rattle.hp_part_trials.proofs.both.explained.found_ends.Goals as goal

pub find-requires-clause-depth : goal.find-requires-clause-depth
unfolding root
find-requires-clause-depth c = ap (λ (t : Tree). t.root.depth) c.in_ok-walk.ensures.tree

pub returns : goal.returns
returns c =
    IfOk-weaker c.find.result _ _
    (λ f h. subst (λ (t : Tree). All (λ e. IsHeld t e.path.items) f.furthest.items) c.in_ok-walk.ensures.tree h)
    c.find.ensures.held
