use Rattle.std.proofs.Common.{rules}
use Rattle.hp_effect.proofs.changes.Changes.push.Goals as goal

pub returns-in-Delete : goal.returns-in-Delete
returns-in-Delete c = search rules
