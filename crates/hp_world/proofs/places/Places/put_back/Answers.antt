use Rattle.std.proofs.Common.{rules}
use Rattle.hp_world.proofs.places.Places.put_back.Goals as goal

pub returns : goal.returns
returns c = search rules
