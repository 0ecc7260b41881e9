use Rattle.std.proofs.Common.{◌≡◌, ◌++◌, take, drop}
use Rattle.hp_eval.specs.Slotted.{Binds}
use Rattle.hp_pick.proofs.heard.fill_all.Given as goal

abbrev pub invariant-loop-v : goal.invariant-loop-v
invariant-loop-v l = record {
  filled : l.slots.values ≡ take l.v l.values ++ drop l.v l.initial.slots.values;
  above : Binds l.initial.slots l.slots;
}
