use Rattle.std.proofs.Common.{◌≡◌, length}
use Rattle.hp_cells.specs.Cells.{NamesList}
use Rattle.hp_syntax.specs.Goals.{all_known}
use Rattle.hp_eval.specs.Growth.{Grows}
use Rattle.hp_eval.specs.GoalViews.{fillings_of}
use Rattle.hp_eval.specs.FillSteps.{joined, parts_at, AreFilledBelow}
use Rattle.hp_eval.proofs.goals.cons_parts.Given as goal

abbrev pub invariant-loop-part : goal.invariant-loop-part
invariant-loop-part l =
    NamesList l.cells l.left
    × AreFilledBelow (length l.initial.cells) l.parts.items
    × Grows l.initial.cells l.cells
    × (joined (fillings_of l.initial.cells l.initial.parts.items) (all_known (parts_at l.initial.cells l.initial.left))
    ≡ joined (fillings_of l.initial.cells l.parts.items) (all_known (parts_at l.cells l.left)))

abbrev pub decreases-loop-part : goal.decreases-loop-part
decreases-loop-part l = length l.parts.items
