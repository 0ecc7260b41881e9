use Rattle.std.proofs.Common.{arith}
use Rattle.std.proofs.lemmas.Grind.{common_steps}
use Rattle.hp_places.proofs.lines.end_before.Goals as goal

pub returns-then-index-starts : goal.returns-then-index-starts
returns-then-index-starts c = grind (arith, common_steps)
