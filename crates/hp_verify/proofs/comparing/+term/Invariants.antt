use Rattle.std.proofs.Common.{◌≡◌, ◌+◌, ◌≤◌}
use Rattle.hp_cells.specs.Cells.{NamesList}
use Rattle.hp_cells.specs.Keys.{parts_of}
use Rattle.hp_eval.specs.GoalViews.{term_at}
use Rattle.hp_syntax.specs.GroundViews.{grounds_of}
use Rattle.hp_syntax.specs.Terms.{same_terms}
use Rattle.hp_verify.proofs.ComparedSteps.{are_left}
use Rattle.hp_verify.proofs.comparing.+term.Given as goal

abbrev pub decreases-are_parts : goal.decreases-are_parts
decreases-are_parts l = l.list + l.list

abbrev pub decreases-is_term : goal.decreases-is_term
decreases-is_term l = l.cell + l.cell + 1

abbrev pub invariant-are_parts-loop-part : goal.invariant-are_parts-loop-part
invariant-are_parts-loop-part l = record {
  list : NamesList l.cells l.rest;
  back : l.rest ≤ l.fn.list;
  so_far :
      are_left l.parts l.part-index l.cells l.rest
      ≡ same_terms (grounds_of l.parts) (parts_of (term_at l.cells l.fn.list));
}
