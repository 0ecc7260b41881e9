use Rattle.hp_eval.proofs.Copies.{IsCopiedTo}
use Rattle.hp_eval.proofs.slots.Slots.copy.Given as goal

abbrev pub invariant-loop-v : goal.invariant-loop-v
invariant-loop-v l = IsCopiedTo l.v l.copy l.self
