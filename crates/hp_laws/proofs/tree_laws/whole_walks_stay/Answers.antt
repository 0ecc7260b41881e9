use Rattle.hp_laws.proofs.WholeLemmas.{walk_stays, no_plan_deeper}
use Rattle.hp_laws.proofs.tree_laws.whole_walks_stay.Goals as goal

pub returns-clause-walk : goal.returns-clause-walk
returns-clause-walk c = walk_stays

pub returns-clause-plans : goal.returns-clause-plans
returns-clause-plans c = no_plan_deeper
