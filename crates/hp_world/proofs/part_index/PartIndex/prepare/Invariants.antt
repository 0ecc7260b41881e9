use Rattle.std.proofs.Common.{◌≡◌, ◌<◌, ℕ, Some, length, slice_get}
use Rattle.std.specs.Option.{IfSome}
use Rattle.hp_world.specs.Keyed.{IsAsRoomy, waiting_at}
use Rattle.hp_world.specs.Parts.{IsKnownBy}
use Rattle.hp_world.proofs.part_index.PartIndex.prepare.Given as goal

abbrev pub invariant-loop-atom : goal.invariant-loop-atom
invariant-loop-atom l = record {
  same : IsAsRoomy l.initial.self l.self;
  count : length l.self.waiting ≡ l.atom-index;
  below : (n : ℕ) → IfSome (waiting_at l.self n) (λ k. k < l.self.keys);
  right : (n a : ℕ) → n < l.atom-index → slice_get l.atoms n ≡ Some a
      → IsKnownBy l.cells l.self.part a (waiting_at l.self n);
}
