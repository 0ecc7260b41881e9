use Rattle.std.proofs.Common.{◌≡◌, ◌≤◌, length, take, vec_len, vec_capacity}
use Rattle.hp_syntax.specs.GroundPatterns.{atoms_said}
use Rattle.hp_syntax.specs.Views.{atoms_of}
use Rattle.hp_eval.specs.Growth.{Grows}
use Rattle.hp_world.specs.Stages.{AllBelow, terms_at}
use Rattle.hp_tree.proofs.root.cells_of.Given as goal

abbrev pub invariant-loop-atom : goal.invariant-loop-atom
invariant-loop-atom l = record {
  grows : Grows l.fn.cells l.cells;
  room : (vec_len l.found ≡ l.atom-index) × (length l.atoms ≤ vec_capacity l.found);
  below : AllBelow (length l.cells) l.found.items;
  terms : terms_at l.cells l.found.items ≡ atoms_said (atoms_of (take l.atom-index l.atoms));
}
