use Rattle.std.proofs.Common.{◌≡◌, ◌<◌, Some, length, map, slice_get, vec_len}
use Rattle.std.specs.List.{All}
use Rattle.hp_cells.specs.Cells.{NamesList}
use Rattle.hp_syntax.specs.Terms.{Terms, Listed}
use Rattle.hp_eval.specs.GoalViews.{term_at}
use Rattle.hp_eval.specs.Growth.{Grows}
use Rattle.hp_eval.specs.Steps.{onto}
use Rattle.hp_eval.proofs.lists.list_onto.Given as goal

abbrev pub invariant-loop-part : goal.invariant-loop-part
invariant-loop-part l = record {
  grows : Grows l.fn.cells l.cells;
  below : All (λ c. c < length l.cells) l.parts.items;
  list : NamesList l.cells l.list;
  whole : (ts us : Terms) → slice_get l.fn.cells l.fn.rest ≡ Some (Listed ts)
      → slice_get l.cells l.list ≡ Some (Listed us)
      → onto (map (term_at l.cells) l.parts.items) us ≡ onto (map (term_at l.fn.cells) l.fn.parts.items) ts;
}

abbrev pub decreases-loop-part : goal.decreases-loop-part
decreases-loop-part l = vec_len l.parts
