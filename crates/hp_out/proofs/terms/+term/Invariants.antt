use Rattle.std.proofs.Common.{◌≤◌}
use Rattle.hp_cells.specs.Cells.{NamesList}
use Rattle.hp_cells.specs.Keys.{parts_of}
use Rattle.hp_eval.specs.GoalViews.{term_at}
use Rattle.hp_syntax.specs.TermTexts.{terms_text}
use Rattle.hp_out.specs.Pages.{desk}
use Rattle.hp_out.proofs.PageSteps.{PutUpTo}
use Rattle.hp_out.proofs.terms.+term.Given as goal

abbrev pub decreases-push_parts : goal.decreases-push_parts
decreases-push_parts g l = l.list

abbrev pub decreases-push_term : goal.decreases-push_term
decreases-push_term g l = l.cell

abbrev pub invariant-push_parts-loop-head : goal.invariant-push_parts-loop-head
invariant-push_parts-loop-head g l = record {
  list : NamesList l.cells l.rest;
  back : l.rest ≤ l.fn.list;
  put :
      PutUpTo (terms_text (parts_of (term_at l.cells l.rest))) (terms_text (parts_of (term_at l.cells l.fn.list)))
      (desk (g.K.Sink.bytes l.fn.sink) l.fn.page) (desk (g.K.Sink.bytes l.sink) l.page);
  later : g.K.Sink.faults l.fn.sink ≤ g.K.Sink.faults l.sink;
}

abbrev pub decreases-push_parts-loop-head : goal.decreases-push_parts-loop-head
decreases-push_parts-loop-head g l = l.rest
