use Rattle.std.proofs.Common.{rules}
use Rattle.hp_io.proofs.mem_sink.MemSinkSink.write.Goals as goal

pub returns-clause-taken : goal.returns-clause-taken
returns-clause-taken c = search rules
