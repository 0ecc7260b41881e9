use Rattle.std.proofs.Common.{rules}
use Rattle.hp_io.proofs.mem_folder.MemFolder.next_fails.Goals as goal

pub returns-clause-fault : goal.returns-clause-fault
returns-clause-fault c = search rules
