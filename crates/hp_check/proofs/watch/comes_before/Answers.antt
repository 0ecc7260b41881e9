use Rattle.std.proofs.Common.{rules}
use Rattle.hp_check.proofs.watch.comes_before.Goals as goal

pub returns-then-first-second : goal.returns-then-first-second
returns-then-first-second c = search rules

pub returns-then-first-second-2 : goal.returns-then-first-second-2
returns-then-first-second-2 c = search rules
