use Rattle.std.proofs.Common.{rules}
use Rattle.hp_terms.proofs.scope.Scope.number.Goals as goal

pub returns-in-Ok : goal.returns-in-Ok
returns-in-Ok c = search rules
