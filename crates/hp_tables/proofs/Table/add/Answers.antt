use Rattle.std.proofs.Common.{rules}
use Rattle.hp_tables.proofs.Table.add.Goals as goal

pub returns-in_ok-push-in-Some : goal.returns-in_ok-push-in-Some
returns-in_ok-push-in-Some c = search rules
