use Rattle.std.proofs.Common.{rules}
use Rattle.hp_check.proofs.rules.named_domain.Goals as goal

pub returns-then-ne : goal.returns-then-ne
returns-then-ne c = search rules
