use Rattle.std.proofs.Common.{◌≡◌, drop, length}
use Rattle.hp_syntax.specs.Matching.{match_parts}
use Rattle.hp_syntax.specs.Views.{pattern_of, patterns_of}
use Rattle.hp_cells.specs.Cells.{NamesList}
use Rattle.hp_eval.specs.Slotted.{Binds, AreBelow, bindings_of}
use Rattle.hp_eval.specs.FillSteps.{parts_at}
use Rattle.hp_eval.proofs.Sizes.{pattern_size, patterns_size}
use Rattle.hp_eval.proofs.matching.+matching.Given as goal

abbrev pub decreases-match_pattern : goal.decreases-match_pattern
decreases-match_pattern l = pattern_size (pattern_of l.pat.now)

abbrev pub decreases-match_parts : goal.decreases-match_parts
decreases-match_parts l = patterns_size (patterns_of l.parts.now)

abbrev pub invariant-match_parts-loop-part : goal.invariant-match_parts-loop-part
invariant-match_parts-loop-part l = record {
  list : NamesList l.cells l.left;
  binds : Binds l.fn.slots l.slots;
  below : AreBelow (length l.cells) l.slots;
  so_far :
      match_parts (patterns_of (drop l.part-index l.parts)) l.tail (parts_at l.cells l.left)
      (bindings_of l.cells l.slots)
      ≡ match_parts (patterns_of l.parts) l.tail (parts_at l.cells l.fn.list) (bindings_of l.cells l.fn.slots);
}
