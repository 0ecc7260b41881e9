use Rattle.std.proofs.Common.{◌≡◌, ◌-◌, ◌≤◌, ℕ, Some, length}
use Rattle.std.specs.Prelude.{slice_get}
use Rattle.hp_links.proofs.links.Links.place_in.Given as goal

abbrev pub invariant-loop-place : goal.invariant-loop-place
invariant-loop-place l = record {
  later : l.start ≤ l.place;
  first : (i : ℕ) → l.start ≤ i → slice_get l.self.rows.items i ≡ Some l.part → l.place ≤ i;
}

abbrev pub decreases-loop-place : goal.decreases-loop-place
decreases-loop-place l = length l.self.rows.items - l.place
