use Rattle.hp_laws.proofs.ReportLemmas.{texts_grow}
use Rattle.hp_laws.proofs.tree_laws.texts_grow_by_plans.Goals as goal

pub returns : goal.returns
returns c = λ walk tell k. texts_grow tell k 0 walk
