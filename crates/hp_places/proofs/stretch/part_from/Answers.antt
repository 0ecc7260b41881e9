use Rattle.std.proofs.Common.{rules}
use Rattle.hp_places.specs.Stretches.{part_from}
use Rattle.hp_places.proofs.stretch.part_from.Goals as goal

pub returns-else-nearest-eq0-clause-from : goal.returns-else-nearest-eq0-clause-from
unfolding part_from
returns-else-nearest-eq0-clause-from c = search rules
