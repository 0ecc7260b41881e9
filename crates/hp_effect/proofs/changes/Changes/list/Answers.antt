use Rattle.std.proofs.Common.{rules}
use Rattle.hp_effect.proofs.changes.Changes.list.Goals as goal

pub returns-in-Unguard : goal.returns-in-Unguard
returns-in-Unguard c = search rules
