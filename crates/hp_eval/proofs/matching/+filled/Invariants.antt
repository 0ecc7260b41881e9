use Rattle.std.proofs.Common.{◌≡◌, drop, length}
use Rattle.hp_syntax.specs.Goals.{match_fillings}
use Rattle.hp_eval.specs.GoalViews.{filled_of, fillings_of}
use Rattle.hp_cells.specs.Cells.{NamesList}
use Rattle.hp_eval.specs.Slotted.{Binds, AreBelow, bindings_of}
use Rattle.hp_eval.specs.FillSteps.{parts_at}
use Rattle.hp_eval.proofs.Sizes.{filled_size, fillings_size}
use Rattle.hp_eval.proofs.matching.+filled.Given as goal

abbrev pub decreases-match_filled : goal.decreases-match_filled
decreases-match_filled l = filled_size (filled_of l.cells.now l.part.now)

abbrev pub decreases-match_fillings : goal.decreases-match_fillings
decreases-match_fillings l = fillings_size (fillings_of l.cells.now l.parts.now)

abbrev pub invariant-match_fillings-loop-part : goal.invariant-match_fillings-loop-part
invariant-match_fillings-loop-part l = record {
  list : NamesList l.cells l.left;
  binds : Binds l.fn.slots l.slots;
  below : AreBelow (length l.cells) l.slots;
  so_far :
      match_fillings (fillings_of l.cells (drop l.part-index l.parts)) l.tail (parts_at l.cells l.left)
      (bindings_of l.cells l.slots)
      ≡ match_fillings (fillings_of l.cells l.parts) l.tail (parts_at l.cells l.fn.list)
      (bindings_of l.cells l.fn.slots);
}
