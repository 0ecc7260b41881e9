use Rattle.hp_eval.proofs.SlotLemmas.{binds_self}
use Rattle.hp_pick.proofs.heard.Heard.start.Goals as goal

pub returns-in-Err-Fault-clause-above : goal.returns-in-Err-Fault-clause-above
returns-in-Err-Fault-clause-above c = binds_self c.args.slots.now

pub returns-in-Err-NoMemory-clause-above : goal.returns-in-Err-NoMemory-clause-above
returns-in-Err-NoMemory-clause-above c = binds_self c.args.slots.now
