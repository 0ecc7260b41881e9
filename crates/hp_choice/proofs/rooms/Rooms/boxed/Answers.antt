use Rattle.std.proofs.Common.{refl}
use Rattle.hp_choice.proofs.rooms.Rooms.boxed.Goals as goal

pub returns-in-Some : goal.returns-in-Some
returns-in-Some c = refl
