use Rattle.std.proofs.Common.{rules}
use Rattle.hp_world.proofs.part_index.PartIndex.follow.Goals as goal

pub returns-in-Back : goal.returns-in-Back
returns-in-Back c = search rules

pub invariant_of-self-in-Fewer : goal.invariant_of-self-in-Fewer
invariant_of-self-in-Fewer c = search rules

pub returns-in-Fewer : goal.returns-in-Fewer
returns-in-Fewer c = search rules
