use Rattle.std.proofs.Common.{◌≡◌, drop}
use Rattle.hp_doctor_tree.specs.Deeds.{last_of}
use Rattle.hp_doctor_tree.proofs.deeds.last_of.Given as goal

abbrev pub invariant-loop-number : goal.invariant-loop-number
invariant-loop-number l = last_of l.last (drop l.number-index l.numbers) ≡ last_of 0 l.numbers
