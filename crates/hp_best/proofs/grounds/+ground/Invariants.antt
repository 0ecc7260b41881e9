use Rattle.std.proofs.Common.{◌≡◌, ◌+◌, ◌≤◌}
use Rattle.hp_cells.specs.Cells.{NamesList}
use Rattle.hp_cells.specs.Keys.{parts_of}
use Rattle.hp_eval.specs.GoalViews.{term_at}
use Rattle.hp_best.proofs.GroundSteps.{with_left}
use Rattle.hp_best.proofs.grounds.+ground.Given as goal

abbrev pub decreases-list_parts : goal.decreases-list_parts
decreases-list_parts l = l.list + l.list

abbrev pub decreases-to_ground : goal.decreases-to_ground
decreases-to_ground l = l.cell + l.cell + 1

abbrev pub invariant-list_parts-loop-head : goal.invariant-list_parts-loop-head
invariant-list_parts-loop-head l = record {
  list : NamesList l.cells l.rest;
  back : l.rest ≤ l.fn.list;
  so_far : with_left l.parts.items l.cells l.rest ≡ parts_of (term_at l.cells l.fn.list);
}

abbrev pub decreases-list_parts-loop-head : goal.decreases-list_parts-loop-head
decreases-list_parts-loop-head l = l.rest
