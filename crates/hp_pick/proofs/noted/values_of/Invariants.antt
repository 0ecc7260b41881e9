use Rattle.std.proofs.Common.{◌≡◌, take}
use Rattle.hp_pick.proofs.noted.values_of.Given as goal

abbrev pub invariant-loop-v : goal.invariant-loop-v
invariant-loop-v l = l.values.items ≡ take l.v l.slots.values
