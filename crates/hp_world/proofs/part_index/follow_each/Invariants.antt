use Rattle.hp_world.specs.Keyed.{Steps}
use Rattle.hp_world.proofs.ZipLemmas.{IsChangedTo}
use Rattle.hp_world.proofs.part_index.follow_each.Given as goal

abbrev pub invariant-loop-number : goal.invariant-loop-number
invariant-loop-number l = IsChangedTo (Steps l.step) l.initial.indexes l.indexes l.number
