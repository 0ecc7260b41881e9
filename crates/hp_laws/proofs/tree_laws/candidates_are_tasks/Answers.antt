use Rattle.hp_laws.proofs.NextTasks.{next_of_whole, next_of_part}
use Rattle.hp_laws.proofs.tree_laws.candidates_are_tasks.Goals as goal

pub returns-clause-whole : goal.returns-clause-whole
returns-clause-whole c = next_of_whole

pub returns-clause-focus : goal.returns-clause-focus
returns-clause-focus c = next_of_part
