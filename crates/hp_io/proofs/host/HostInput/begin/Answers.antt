use Rattle.std.proofs.Common.{rules}
use Rattle.hp_io.proofs.host.HostInput.begin.Goals as goal

pub returns-in-Err-clause-no_memory : goal.returns-in-Err-clause-no_memory
returns-in-Err-clause-no_memory g c = search rules
