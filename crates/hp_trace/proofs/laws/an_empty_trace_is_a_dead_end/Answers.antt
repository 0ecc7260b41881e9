use Rattle.hp_trace.proofs.EndSteps.{dead_root, root_found}
use Rattle.hp_trace.proofs.laws.an_empty_trace_is_a_dead_end.Goals as goal

pub returns : goal.returns
returns c = record { dead = dead_root; found = root_found }
