use Rattle.hp_net.proofs.RunLemmas.{calls_visit}
use Rattle.hp_net.proofs.laws.calls_visit_what_is_not_pruned.Goals as goal

pub returns : goal.returns
returns c = calls_visit
