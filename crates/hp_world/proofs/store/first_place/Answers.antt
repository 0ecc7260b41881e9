use Rattle.std.proofs.Common.{rules}
use Rattle.hp_world.proofs.store.first_place.Goals as goal

pub returns : goal.returns
returns c = search rules
