use Rattle.std.proofs.Common.{rules}
use Rattle.hp_world.proofs.world.World.place_of.Goals as goal

pub returns : goal.returns
returns c = search rules
