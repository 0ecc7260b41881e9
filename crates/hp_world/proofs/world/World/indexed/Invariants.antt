use Rattle.std.proofs.Common.{◌≡◌, ℕ, List, [], take}
use Rattle.std.specs.List.{All}
use Rattle.hp_syntax.specs.Terms.{Term}
use Rattle.hp_world.specs.Keyed.{AtomsBelow, KnowsParts, parts_of}
use Rattle.hp_world.specs.Undoing.{IsSound, history_of}
use Rattle.hp_world.proofs.world.World.indexed.Given as goal

abbrev pub invariant-loop-part : goal.invariant-loop-part
invariant-loop-part l = record {
  sound : IsSound l.store;
  empty : history_of l.store ≡ record { past = []; now = record { places = []; guards = [] } };
  indexes : parts_of l.store.parts.items ≡ take l.part-index l.parts;
  knows : (terms : List Term) → All (KnowsParts terms) l.store.parts.items;
  entries : (n : ℕ) → All (AtomsBelow n) l.store.parts.items;
}
