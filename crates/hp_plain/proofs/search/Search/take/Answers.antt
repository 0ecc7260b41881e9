use Rattle.std.proofs.Common.{rules}
use Rattle.hp_plain.proofs.search.Search.take.Goals as goal

pub returns-in-Some-Child-Fault-clause-taken : goal.returns-in-Some-Child-Fault-clause-taken
returns-in-Some-Child-Fault-clause-taken c = search rules
