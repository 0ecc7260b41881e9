use Rattle.hp_after.proofs.PlanLemmas.{comes_to_plan}
use Rattle.hp_after.proofs.laws.walks_come_to_the_plan.Goals as goal

pub returns : goal.returns
returns c = comes_to_plan
