use Rattle.hp_eval.specs.Slotted.{Binds}
use Rattle.hp_eval.proofs.Copies.{IsCopiedTo}
use Rattle.hp_satisfiers.proofs.listed.fill.Given as goal

abbrev pub invariant-loop-v : goal.invariant-loop-v
invariant-loop-v l = record {
  copied : IsCopiedTo l.v l.slots l.own;
  above : Binds l.initial.slots l.slots;
}
