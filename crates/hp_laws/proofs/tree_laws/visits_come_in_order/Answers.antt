use Rattle.hp_laws.proofs.OrderLemmas.{visits_in_order}
use Rattle.hp_laws.proofs.tree_laws.visits_come_in_order.Goals as goal

pub returns : goal.returns
returns c = visits_in_order
