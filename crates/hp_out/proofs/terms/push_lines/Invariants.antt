use Rattle.std.proofs.Common.{◌≤◌, take}
use Rattle.hp_out.specs.Pages.{desk, Put}
use Rattle.hp_out.proofs.TermSteps.{cells_text}
use Rattle.hp_out.proofs.terms.push_lines.Given as goal

abbrev pub invariant-loop-cell : goal.invariant-loop-cell
invariant-loop-cell g l = record {
  put :
      Put (cells_text l.cells (take l.cell-index l.list)) (desk (g.K.Sink.bytes l.fn.sink) l.fn.page)
      (desk (g.K.Sink.bytes l.sink) l.page);
  later : g.K.Sink.faults l.fn.sink ≤ g.K.Sink.faults l.sink;
}
