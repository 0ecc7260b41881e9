use Rattle.std.proofs.Common.{◌≡◌, ◌≤◌, length, map, take, vec_len, vec_capacity}
use Rattle.hp_syntax.specs.GroundViews.{ground_of}
use Rattle.hp_world.specs.Stages.{terms_at}
use Rattle.hp_best.proofs.grounds.to_grounds.Given as goal

abbrev pub invariant-loop-cell : goal.invariant-loop-cell
invariant-loop-cell l = record {
  room : (vec_len l.terms ≡ l.cell-index) × (length l.list ≤ vec_capacity l.terms);
  so_far : map ground_of l.terms.items ≡ terms_at l.cells (take l.cell-index l.list);
}
