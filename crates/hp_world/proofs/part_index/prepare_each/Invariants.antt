use Rattle.std.specs.List.{All}
use Rattle.std.proofs.Common.{take}
use Rattle.hp_world.specs.Keyed.{IsAsRoomy, Awaits}
use Rattle.hp_world.proofs.ZipLemmas.{IsChangedTo}
use Rattle.hp_world.proofs.part_index.prepare_each.Given as goal

abbrev pub invariant-loop-number : goal.invariant-loop-number
invariant-loop-number l = record {
  same : IsChangedTo IsAsRoomy l.initial.indexes l.indexes l.number;
  awaits : All (Awaits l.cells l.atoms) (take l.number l.indexes);
}
