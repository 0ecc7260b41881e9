use Rattle.std.proofs.Common.{ap}
use Rattle.std.proofs.lemmas.Result.{IfOk-weaker}
use Rattle.hp_net.specs.Standings.{Tree}
use Rattle.hp_syntax.specs.Walk.{root}
use Rattle.hp_part_trials.proofs.both.loading.walk_in_place.Goals as goal

pub returns-clause-cost : goal.returns-clause-cost
unfolding root
returns-clause-cost c =
    IfOk-weaker c.new.result _ _ (λ p e. ap (λ (t : Tree). t.root.cost) e) c.new.ensures.tree
