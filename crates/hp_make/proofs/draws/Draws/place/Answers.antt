use Rattle.std.proofs.Common.{rules}
use Rattle.hp_make.proofs.draws.Draws.place.Goals as goal

pub returns-clause-drawn : goal.returns-clause-drawn
returns-clause-drawn c = search rules

pub returns-clause-moved : goal.returns-clause-moved
returns-clause-moved c = search rules
