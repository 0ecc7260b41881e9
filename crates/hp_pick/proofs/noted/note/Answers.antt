use Rattle.std.proofs.Common.{rules}
use Rattle.hp_pick.proofs.noted.note.Goals as goal

pub returns-in-Cut-clause-step : goal.returns-in-Cut-clause-step
returns-in-Cut-clause-step c = search rules

pub returns-in-Fault-clause-step : goal.returns-in-Fault-clause-step
returns-in-Fault-clause-step c = search rules
