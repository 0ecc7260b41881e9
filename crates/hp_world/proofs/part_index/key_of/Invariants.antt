use Rattle.std.proofs.Common.{◌≡◌, ◌-◌, ◌<◌, Some, length, slice_get}
use Rattle.hp_syntax.specs.Terms.{Term}
use Rattle.hp_world.proofs.PartLemmas.{LeadsTo}
use Rattle.hp_world.proofs.part_index.key_of.Given as goal

abbrev pub invariant-loop-number : goal.invariant-loop-number
invariant-loop-number l = record {
  within : l.rest < length l.cells;
  leads : (t : Term) → slice_get l.cells l.fn.atom ≡ Some t → LeadsTo l.cells (l.part - l.number) l.rest l.part t;
}
