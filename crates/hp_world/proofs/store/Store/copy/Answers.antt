use Rattle.std.proofs.Common.{rules}
use Rattle.hp_world.proofs.store.Store.copy.Goals as goal

pub returns-clause-same : goal.returns-clause-same
returns-clause-same c = search rules
