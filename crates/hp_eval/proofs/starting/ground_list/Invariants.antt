use Rattle.std.proofs.Common.{◌≡◌, None, length}
use Rattle.hp_syntax.specs.Goals.{ground_parts}
use Rattle.hp_cells.specs.Cells.{NamesList}
use Rattle.hp_eval.specs.Growth.{Grows}
use Rattle.hp_eval.specs.GoalViews.{fillings_of}
use Rattle.hp_eval.specs.FillSteps.{AreFilledBelow, parts_at}
use Rattle.hp_eval.proofs.StartingSteps.{ground_onto}
use Rattle.hp_eval.proofs.starting.ground_list.Given as goal

abbrev pub invariant-loop-last : goal.invariant-loop-last
invariant-loop-last l = record {
  list : NamesList l.cells l.list;
  grows : Grows l.fn.cells l.cells;
  below : AreFilledBelow (length l.fn.cells) l.left;
  so_far : ground_onto (fillings_of l.fn.cells l.left) (parts_at l.cells l.list)
      ≡ ground_parts (fillings_of l.fn.cells l.parts) None;
}

abbrev pub decreases-loop-last : goal.decreases-loop-last
decreases-loop-last l = length l.left
