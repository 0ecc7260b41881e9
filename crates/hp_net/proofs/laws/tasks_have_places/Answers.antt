use Rattle.hp_net.proofs.NetSteps.{task_has_place, same_place}
use Rattle.hp_net.proofs.laws.tasks_have_places.Goals as goal

pub returns-clause-places : goal.returns-clause-places
returns-clause-places c = task_has_place

pub returns-clause-apart : goal.returns-clause-apart
returns-clause-apart c = same_place
