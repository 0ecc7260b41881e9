use Rattle.std.proofs.Common.{◌≡◌, length}
use Rattle.hp_cells.specs.Cells.{NamesList}
use Rattle.hp_syntax.specs.Goals.{all_known}
use Rattle.hp_eval.specs.GoalViews.{fillings_of}
use Rattle.hp_eval.specs.FillSteps.{joined, parts_at, AreFilledBelow}
use Rattle.hp_eval.proofs.goals.append_list.Given as goal

abbrev pub invariant-loop-head : goal.invariant-loop-head
invariant-loop-head l =
    NamesList l.cells l.left
    × AreFilledBelow (length l.cells) l.parts.items
    × (joined (fillings_of l.cells l.initial.parts.items) (all_known (parts_at l.cells l.initial.left))
    ≡ joined (fillings_of l.cells l.parts.items) (all_known (parts_at l.cells l.left)))

abbrev pub decreases-loop-head : goal.decreases-loop-head
decreases-loop-head l = l.left
